use Rattle.std.proofs.Common.{ℕ, List, ◌++◌}
use Rattle.md5.specs.Md5.{Holds}
use Rattle.sha_crypt.specs.Digest.{copies}
use Rattle.md5_plain.proofs.digest.feed_copies.Given as goal

abbrev pub invariant-copies : goal.invariant-copies
invariant-copies l = (m : List ℕ) → Holds l.initial.hasher m → Holds l.hasher (m ++ copies l.i l.piece)
