use Rattle.std.proofs.Common.{◌≡◌, ◌-◌, ◌≤◌}
use Rattle.sha_crypt.specs.Digest.{after_rounds, repeated_to}
use Rattle.sha_crypt.proofs.turns.after_rounds.Given as goal

abbrev pub invariant-turns : goal.invariant-turns
invariant-turns g l =
    (l.c ≡ after_rounds g.H.Hasher.hash l.a (repeated_to l.password_len l.dp) l.ds l.done) × (l.done ≤ l.rounds)

abbrev pub decreases-turns : goal.decreases-turns
decreases-turns g l = l.rounds - l.done
