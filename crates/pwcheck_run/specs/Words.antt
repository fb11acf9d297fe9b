-- The forms of words.
use Rattle.std.specs.Prelude.{◌≡◌, ◌≢◌, ◌⊎◌, ℕ, ◌≤◌, List, [], ◌∷◌, codes}
use Rattle.std.specs.Fmt.{decimal}

-- `check`
abbrev pub check : List (List ℕ)
check = codes "check" ∷ []

-- `check --count`
abbrev pub check_count : List (List ℕ)
check_count = codes "check" ∷ codes "--count" ∷ []

-- `normalize`
abbrev pub normalize : List (List ℕ)
normalize = codes "normalize" ∷ []

-- a verb and a number from `least` to `most`, written without a leading zero
abbrev pub IsNumbered : List ℕ → ℕ → ℕ → ℕ → List (List ℕ) → Type 0
IsNumbered verb least most n words = (least ≤ n) × (n ≤ most) × (words ≡ verb ∷ decimal n ∷ [])

-- `bench` and a number of lines
abbrev pub IsBench : ℕ → List (List ℕ) → Type 0
IsBench n words = IsNumbered (codes "bench") 1 2000 n words

-- `wrap` and a width
abbrev pub IsWrap : ℕ → List (List ℕ) → Type 0
IsWrap w words = IsNumbered (codes "wrap") 4 65536 w words

-- `unwrap` and a width
abbrev pub IsUnwrap : ℕ → List (List ℕ) → Type 0
IsUnwrap w words = IsNumbered (codes "unwrap") 4 65536 w words

-- the forms that answer line by line
abbrev pub AreOverLines : List (List ℕ) → Type 0
AreOverLines words = (words ≡ check) ⊎ ((words ≡ check_count) ⊎ (words ≡ normalize))

-- no form of words
abbrev pub AreNoForm : List (List ℕ) → Type 0
AreNoForm words = (words ≢ check) × (words ≢ check_count) × (words ≢ normalize) × ((n : ℕ) → IsBench n words → ⊥)
    × ((w : ℕ) → IsWrap w words → ⊥) × ((w : ℕ) → IsUnwrap w words → ⊥)
