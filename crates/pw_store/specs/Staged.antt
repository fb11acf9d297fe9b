-- Changes that are in the table and not yet in the file. No clause of a public call names these words.
use Rattle.std.specs.Prelude.{◌≡◌, ℕ, ◌+◌, ◌<◌, ◌≤◌, List, [], ◌∷◌, length, Option, Some, unwrap_or}
use Rattle.line_log.specs.Log.{AreWhole, IsSettled, file_max, group_max, open_lines}
use Rattle.pw_file.specs.Calls.{with_text}
use Rattle.pw_file.specs.History.{Rows, text_in}
use Rattle.pw_file.specs.Policy.{TextPolicy}
use Rattle.pw_store.specs.Store.{recovered_rows, rows_after}
use Rattle.line_log.specs.declared.log.LineLog.{LineLog}
use Rattle.pw_store.specs.declared.group.Group.{Group}

-- the lines of the changes, each with its line feed
abbrev pub lines_of : {P A B C : Type 0} → Group P A B C → List ℕ
lines_of g = g.lines.items

-- for each change the user, and the text that it had
abbrev pub undo_of : {P A B C : Type 0} → Group P A B C → List (List ℕ × Option (List ℕ))
undo_of g = g.undo.items

-- the table is these rows, and then each of these users had its text changed, which was the one that is told
abbrev pub Undoes : Rows → List (List ℕ × Option (List ℕ)) → Rows → Type 0
Undoes rows [] table = table ≡ rows
Undoes rows (last ∷ more) table =
    (last.1 ≡ text_in rows last.0) × ((new : List ℕ) × Undoes (with_text rows last.0 new) more table)

-- the rows that a file stands for
abbrev pub rows_in : {T V : Type 0} → TextPolicy T V → List ℕ → Rows
rows_in p file = unwrap_or (recovered_rows p file) []

-- The file is at rest, and the rows are those that it stands for with the changes of these lines.
pub record IsStaged {D T V : Type 0} (p : TextPolicy T V) (seen : D → List ℕ) (may_leave : D → List ℕ → Type 0) (log : LineLog D) (lines : List ℕ)
    (undo : List (List ℕ × Option (List ℕ))) (rows : Rows) : Type 0 where
  pub settled : IsSettled seen may_leave log
  pub file : recovered_rows p (seen log.device) ≡ Some (rows_in p (seen log.device))
  pub whole : AreWhole lines
  pub short : length lines ≤ group_max
  pub room : 0 < length lines → log.end + length lines ≤ file_max
  pub table : rows_after p (rows_in p (seen log.device)) (open_lines lines) ≡ Some rows
  pub undoes : Undoes (rows_in p (seen log.device)) undo rows
