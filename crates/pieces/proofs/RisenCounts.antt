-- Counts of faults that rise.
use Rattle.std.proofs.Common.{ℕ, ◌-◌, ◌^◌, ◌<◌, ◌≤◌, inl, inr, arith}
use Rattle.std.proofs.Math.Nat.{eq-or-lt_of_le}
use Rattle.pieces.specs.FaultCounts.{HasRisen, one_more}

-- a count has risen where it is greater
pub risen_greater : (before now : ℕ) → before < now → HasRisen before now
risen_greater before now less = inl less

-- a count of its type has risen by one more fault
pub risen_one_more : (count : ℕ) → count ≤ 2 ^ 64 - 1 → HasRisen count (one_more count)
risen_one_more count within = elim (eq-or-lt_of_le within) [
  | inl e ↦ inr (omega (arith, e))
  | inr less ↦ inl (omega (arith, less))
]

-- what has risen has risen since any earlier count that was no greater
pub risen_since : (earlier before now : ℕ) → earlier ≤ before → HasRisen before now → HasRisen earlier now
risen_since earlier before now le risen = elim risen [
  | inl less ↦ inl (omega (arith, less, le))
  | inr e ↦ inr e
]

-- a count that rose and fell no more has risen
pub risen_still : (before now later : ℕ) → before ≤ now → now ≤ later → HasRisen before now → HasRisen before later
risen_still before now later up on risen = elim risen [
  | inl less ↦ inl (omega (arith, less, on))
  | inr e ↦ elim (eq-or-lt_of_le on) [
    | inl same ↦ inr (omega (arith, e, same))
    | inr less ↦ inl (omega (arith, up, less))
  ]
]
