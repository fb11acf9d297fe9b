use Rattle.std.proofs.Common.{ℕ, List, ◌++◌}
use Rattle.sha_crypt.specs.Digest.{copies}
use Rattle.sha_crypt.proofs.digest.feed_copies.Given as goal

abbrev pub invariant-copies : goal.invariant-copies
invariant-copies g l = (m : List ℕ) → g.H.Hasher.holds l.initial.hasher m
    → g.H.Hasher.holds l.hasher (m ++ copies l.i l.piece)
