-- The table as lines of a shadow or htpasswd file.
use Rattle.std.specs.Prelude.{ℕ, List, [], ◌∷◌, ◌++◌}
use Rattle.std.specs.List.{flat_map}
use Rattle.pw_file.specs.History.{Rows}

-- a user, a colon, its text and a line feed
abbrev pub export_line : List ℕ × List ℕ → List ℕ
export_line row = row.0 ++ 58 ∷ (row.1 ++ 10 ∷ [])

-- a line for each user, in the order of the table
abbrev pub export_text : Rows → List ℕ
export_text rows = flat_map export_line rows
