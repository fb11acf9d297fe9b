-- What stands before the digest in the odd rounds, as the rounds' body keeps it. No public clause names these words.
use Rattle.std.specs.Prelude.{ℕ, ◌==◌, ◌%◌, if◌then◌else◌, List, [], ◌++◌}

-- the pieces before the digest in the odd round i
abbrev pub front : ℕ → List ℕ → List ℕ → List ℕ
front i p s = p ++ (if i % 3 == 0 then [] else s) ++ (if i % 7 == 0 then [] else p)

-- four hashers hold the fronts of the rounds 1, 3, 7 and 21
pub record AreFronts (one three seven twenty_one : List ℕ → Type 0) (p s : List ℕ) : Type 0 where
  pub in_one : one (front 1 p s)
  pub in_three : three (front 3 p s)
  pub in_seven : seven (front 7 p s)
  pub in_twenty_one : twenty_one (front 21 p s)
