-- What is written for C.
use Rattle.std.specs.Prelude.{◌≡◌, ℕ, ◌+◌, ◌<◌, ◌≤◌, List, ◌∷◌, ◌++◌, length, drop}

-- the text has this length, and it stands with a zero at the front of what was old and is new, where there is room
pub record IsWritten (text old new : List ℕ) (n : ℕ) : Type 0 where
  pub text_length : n ≡ length text
  pub room : length text < length old → new ≡ text ++ 0 ∷ drop (length text + 1) old
  pub no_room : length old ≤ length text → new ≡ old
