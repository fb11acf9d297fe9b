use Rattle.std.proofs.Common.{◌≡◌}
use Rattle.sha1_crypt.specs.Digest.{after_rounds, first_message}
use Rattle.sha1_crypt.proofs.digest.sha1_crypt.Given as goal

abbrev pub invariant-turns : goal.invariant-turns
invariant-turns l = l.code ≡ after_rounds l.password (first_message l.salt l.rounds) l.turn
