-- Which plans and places the body takes; no public clause names these words.
use Rattle.std.specs.Prelude.{ℕ, ◌*◌, ◌^◌, ◌<◌, ◌≤◌, nat_lt, cond}
use Rattle.argon2_plain.specs.declared.fill.Plan.{Plan}
use Rattle.argon2_plain.specs.declared.fill.Place.{Place}

-- at least one lane, segments of at least two blocks, and at most 2 ^ 21 blocks, thus in a lane too, and as many lanes
abbrev pub IsPlan : Plan → Type 0
IsPlan plan =
    (1 ≤ plan.lanes) × ((2 ≤ plan.segment) × ((plan.lanes ≤ 2 ^ 21) × ((4 * plan.segment ≤ 2 ^ 21)
    × (4 * plan.segment * plan.lanes ≤ 2 ^ 21))))

-- one of the four slices, and one of the lanes
abbrev pub IsPlace : Plan → Place → Type 0
IsPlace plan place = (place.slice < 4) × (place.lane < plan.lanes)

-- where run k of a segment's blocks begins: each 128 blocks have their addresses in one block of addresses
abbrev pub run_start : Plan → ℕ → ℕ
run_start plan k = cond (nat_lt plan.segment (128 * k)) plan.segment (128 * k)
