use Rattle.std.proofs.Common.{◌≡◌, ℕ, List}
use Rattle.sha_crypt.specs.Digest.{after_rounds, repeated_to}
use Rattle.sha_crypt.proofs.turns.turn.Given as goal

abbrev pub invariant-rounds : goal.invariant-rounds
invariant-rounds g l = (a : List ℕ)
    → l.before ≡ after_rounds g.H.Hasher.hash a (repeated_to l.password_len l.dp) l.ds l.first
    → l.c ≡ after_rounds g.H.Hasher.hash a (repeated_to l.password_len l.dp) l.ds l.i
