-- What a file stands for: users with their texts.
use Rattle.std.specs.Prelude.{◌≡◌, ℕ, ◌&&◌, ◌++◌, Bool, List, [], ◌∷◌, codes, drop, eqb, length, map, nat_le, not, Option, None, Some, if◌then◌else◌}
use Rattle.std.specs.List.{list_any, starts_with}
use Rattle.std.specs.Option.{option_map_or}
use Rattle.pieces.specs.Characters.{is_tab}
use Rattle.line_log.specs.Log.{Stands, recovered}
use Rattle.line_log.specs.Taker.{file_fault}
use Rattle.line_log.specs.declared.reopen.OpenError.{OpenError}
use Rattle.pw_file.specs.Commands.{remove_line}
use Rattle.pw_file.specs.Limits.{name_max}
use Rattle.pw_file.specs.History.{History, Rows, Says, is_done}
use Rattle.pw_file.specs.Policy.{TextPolicy}
use Rattle.pw_file.specs.Rules.{table_after, table_reply}
use Rattle.pw_file.specs.declared.reply.Word.TheVariants.{Done}

-- ---- lines of the file

-- the line of the file that takes a user away: `set`, a tab and the user, without a second tab
abbrev pub removal_line : List ℕ → List ℕ
removal_line user = codes "set" ++ 9 ∷ user

-- no tab is among the bytes, which are at most 64, as a name has
abbrev pub is_last_part : List ℕ → Bool
is_last_part bytes = nat_le (length bytes) name_max && not (list_any is_tab bytes)

-- the user whom a line of the file takes away
abbrev pub removed_name : List ℕ → Option (List ℕ)
removed_name line =
    if starts_with eqb line (codes "set" ++ 9 ∷ []) && is_last_part (drop 4 line) then Some (drop 4 line) else None

-- the command that a line of the file is: `remove` of that user, or else the line itself
unfoldable pub as_command : List ℕ → List ℕ
as_command line = option_map_or remove_line (removed_name line) line

-- ---- what they leave

-- The line is a `set` that is taken over these rows, or takes away a user who is there: no other command is answered `ok`.
abbrev pub is_taken : {T V : Type 0} → TextPolicy T V → Rows → List ℕ → Bool
is_taken p rows line = is_done (table_reply p rows (as_command line))

-- the rows after a line
abbrev pub rows_with : {T V : Type 0} → TextPolicy T V → Rows → List ℕ → Rows
rows_with p rows line = table_after p rows (as_command line)

-- the rows after these lines, where each is taken over those before it
abbrev pub rows_after : {T V : Type 0} → TextPolicy T V → Rows → List (List ℕ) → Option Rows
rows_after p rows [] = Some rows
rows_after p rows (line ∷ more) = if is_taken p rows line then rows_after p (rows_with p rows line) more else None

-- the rows that a file stands for, where each of its lines is taken
unfoldable pub recovered_rows : {T V : Type 0} → TextPolicy T V → List ℕ → Option Rows
recovered_rows p file = rows_after p [] (recovered file)

-- why a file isn't opened: its first fault, by the lines that the table takes
abbrev pub store_fault : {T V : Type 0} → TextPolicy T V → List ℕ → Option OpenError
store_fault p file = file_fault (is_taken p) (rows_with p) [] file

-- A run can have left this file, and it stands for these rows.
pub record StandsFor {T V : Type 0} (p : TextPolicy T V) (rows : Rows) (file : List ℕ) : Type 0 where
  pub form : Stands (recovered file) file
  pub rows_are : recovered_rows p file ≡ Some rows

-- the lines of a file as a history of `pw_file`: each command was answered `ok`
abbrev pub taken : List (List ℕ) → History
taken lines = map (λ line. (as_command line, Says Done)) lines
