-- The first place of a byte.
use Rattle.std.specs.Prelude.{◌≡◌, ◌≢◌, ◌↔◌, ℕ, ◌+◌, ◌≤◌, ◌<◌, List, Option, length, slice_index, MatchOption}
use Rattle.std.specs.Int.{bit_at}

-- no byte at a place below n is c
abbrev pub LacksBelow : ℕ → List ℕ → ℕ → Type 0
LacksBelow c bytes n = (i : ℕ) → i < n → slice_index bytes i ≢ c

-- r is the first place where c stands
abbrev pub IsFirstPlace : ℕ → List ℕ → Option ℕ → Type 0
IsFirstPlace c bytes r =
    MatchOption r (LacksBelow c bytes (length bytes))
    (λ at. (at < length bytes) × LacksBelow c bytes at × (slice_index bytes at ≡ c))

-- no byte at a place from i to below n is c
abbrev pub LacksBetween : ℕ → List ℕ → ℕ → ℕ → Type 0
LacksBetween c bytes i n = (k : ℕ) → i ≤ k → k < n → slice_index bytes k ≢ c

-- r is the last place below n where c stands
abbrev pub IsLastBelow : ℕ → List ℕ → ℕ → Option ℕ → Type 0
IsLastBelow c bytes n r =
    MatchOption r (LacksBelow c bytes n) (λ at. (at < n) × LacksBetween c bytes (at + 1) n × (slice_index bytes at ≡ c))

-- r is the last place where c stands
abbrev pub IsLastPlace : ℕ → List ℕ → Option ℕ → Type 0
IsLastPlace c bytes r = IsLastBelow c bytes (length bytes) r

-- bit k of m tells whether c stands at place i + k, for 16 places
pub record Marks (c : ℕ) (bytes : List ℕ) (i m : ℕ) : Type 0 where
  pub each : (k : ℕ) → k < 16 → (bit_at m k ≡ 1) ↔ (slice_index bytes (i + k) ≡ c)
  pub within : (k : ℕ) → bit_at m k ≡ 1 → k < 16
