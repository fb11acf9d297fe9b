use Rattle.std.proofs.Common.{◌≡◌, ◌-◌, ◌≤◌}
use Rattle.md5.specs.Md5.{md5}
use Rattle.sha_crypt.specs.Digest.{after_rounds}
use Rattle.md5_plain.proofs.turns.after_rounds.Given as goal

abbrev pub invariant-turns : goal.invariant-turns
invariant-turns l = (l.c ≡ after_rounds md5 l.a l.password l.salt l.done) × (l.done ≤ l.rounds)

abbrev pub decreases-turns : goal.decreases-turns
decreases-turns l = l.rounds - l.done
