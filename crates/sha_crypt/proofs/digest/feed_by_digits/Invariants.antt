use Rattle.std.proofs.Common.{◌≡◌, ℕ, List, ◌++◌}
use Rattle.sha_crypt.specs.Digest.{by_digits}
use Rattle.sha_crypt.proofs.digest.feed_by_digits.Given as goal

-- some message is held, and what is left to feed makes it the whole
abbrev pub invariant-digits : goal.invariant-digits
invariant-digits g l = (m : List ℕ) → g.H.Hasher.holds l.initial.hasher m
    → (x : List ℕ) × g.H.Hasher.holds l.hasher x
    × (x ++ by_digits l.left l.digest l.password ≡ m ++ by_digits l.number l.digest l.password)

abbrev pub decreases-digits : goal.decreases-digits
decreases-digits g l = l.left
