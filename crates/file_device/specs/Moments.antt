-- Moments of a device: proofs, which the members of its trait need. No public clause names these words.
use Rattle.std.specs.Prelude.{ℕ, ◌≤◌, List, [], ◌∷◌, length}
use Rattle.std.proofs.Common.{arith, inl, inr}
use Rattle.file_device.specs.Calls.{Call, LeftSince, MayLeave}

-- what a crash may leave now counts as left since any earlier moment
pub counts_now : (calls : List Call) (t : ℕ) (c : List ℕ) → t ≤ length calls → MayLeave calls c → LeftSince calls t c
unfolding LeftSince
counts_now [] t c le now = (omega arith, now)
counts_now (call ∷ calls) t c le now = inr (omega arith, now)

-- since this moment there is no other
pub only_now : (calls : List Call) (c : List ℕ) → LeftSince calls (length calls) c → MayLeave calls c
unfolding LeftSince
only_now [] c since = since.1
only_now (call ∷ calls) c (inl earlier) = let le = earlier.0 in absurd (omega (arith, le))
only_now (call ∷ calls) c (inr now) = now.1
