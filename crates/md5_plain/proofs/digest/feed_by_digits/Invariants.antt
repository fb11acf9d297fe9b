use Rattle.std.proofs.Common.{◌≡◌, ℕ, List, ◌++◌}
use Rattle.md5.specs.Md5.{Holds}
use Rattle.md5_plain.specs.Digest.{by_digits}
use Rattle.md5_plain.proofs.digest.feed_by_digits.Given as goal

-- some message is held, and what is left to feed makes it the whole
abbrev pub invariant-digits : goal.invariant-digits
invariant-digits l = (m : List ℕ) → Holds l.initial.hasher m
    → (x : List ℕ) × Holds l.hasher x
    × (x ++ by_digits l.left l.password ≡ m ++ by_digits l.number l.password)

abbrev pub decreases-digits : goal.decreases-digits
decreases-digits l = l.left
