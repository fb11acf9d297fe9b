-- A file while it is written. No clause of a public call names these words.
use Rattle.std.specs.Prelude.{ℕ, List, [], ◌∷◌, ◌++◌, drop}
use Rattle.line_log.specs.Device.{Torn}
use Rattle.line_log.specs.Log.{written}

-- the group stands behind the lines, closed, and the next closed byte behind it
abbrev pub staged : List (List ℕ) → List ℕ → List ℕ
staged lines group = written lines ++ 35 ∷ (drop 1 group ++ 35 ∷ [])

-- a file that a crash may leave, after a write that is cut short
abbrev pub TornFrom : ℕ → ℕ → (List ℕ → Type 0) → List ℕ → Type 0
TornFrom at n may_leave c = (d : List ℕ) × may_leave d × Torn at n d c
