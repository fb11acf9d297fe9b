use Rattle.std.proofs.Common.{◌≡◌}
use Rattle.phpass_plain.specs.Digest.{after_turns}
use Rattle.phpass_plain.proofs.digest.phpass.Given as goal

abbrev pub invariant-turns : goal.invariant-turns
invariant-turns l = l.digest ≡ after_turns l.password l.salt l.turn
