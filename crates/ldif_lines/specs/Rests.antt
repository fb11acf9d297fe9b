-- What is still to be given of a dump, by what was read before it.
use Rattle.std.specs.Prelude.{ℕ, ◌+◌, Bool, true, false, ◌&&◌, ◌==◌, List, [], ◌∷◌, ◌++◌, length, nat_lt, not, Option, Some, None, if◌then◌else◌}
use Rattle.ldif_lines.specs.Attributes.{is_dn, is_password, is_uid, line_name, line_text, no_name}
use Rattle.ldif_lines.specs.Entries.{fitting, too_long}
use Rattle.ldif_lines.specs.Limits.{line_most, rows_most}

-- ---- lines, by the line so far, and by whether a line feed was read last

-- the line so far with one byte more
abbrev pub grown : List ℕ → ℕ → List ℕ
grown line b = if nat_lt (length line) line_most then line ++ b ∷ [] else line

abbrev pub rest_lines : Bool → List ℕ → List ℕ → List (List ℕ)
rest_lines false line [] = if length line == 0 then [] else line ∷ []
rest_lines true line [] = line ∷ []
rest_lines false line (b ∷ text) = if b == 10 then rest_lines true line text else rest_lines false (grown line b) text
rest_lines true line (b ∷ text) =
    if not (length line == 0) && (b == 32) then rest_lines false line text
    else line ∷ (if b == 10 then rest_lines true [] text else rest_lines false (b ∷ []) text)

-- ---- an entry so far: whether a `uid` gave the name, the name, and the texts, of which a line feed ends each; none where they
-- are too many

pub record Held : Type 0 where
  pub has_uid : Bool
  pub name : List ℕ
  pub texts : Option (List ℕ)

abbrev pub fresh : Held
fresh = record { has_uid = false; name = no_name; texts = Some [] }

-- an entry that begins with a distinguished name
abbrev pub named : List ℕ → Held
named line = record { has_uid = false; name = line_name line; texts = Some [] }

-- the texts with one more
abbrev pub with_text : Option (List ℕ) → List ℕ → Option (List ℕ)
with_text None text = None
with_text (Some texts) text =
    if nat_lt rows_most (length texts + (length text + 1)) then None else Some (texts ++ (text ++ 10 ∷ []))

-- the entry with one more line
abbrev pub with_uid : Held → List ℕ → Held
with_uid e line = if e.has_uid then e else record { has_uid = true; name = line_name line; texts = e.texts }

abbrev pub with_password : Held → List ℕ → Held
with_password e line = record { has_uid = e.has_uid; name = e.name; texts = with_text e.texts (line_text line) }

abbrev pub with_line : Held → List ℕ → Held
with_line e line = if is_uid line then with_uid e line else if is_password line then with_password e line else e

-- the lines of an entry: the name and a colon before each text
abbrev pub row_begin : Bool → List ℕ → List ℕ
row_begin true name = name ++ 58 ∷ []
row_begin false name = []

abbrev pub rows_from : List ℕ → Bool → List ℕ → List ℕ
rows_from name begins [] = []
rows_from name begins (b ∷ texts) = row_begin begins name ++ b ∷ rows_from name (b == 10) texts

abbrev pub rows_of : List ℕ → Option (List ℕ) → List ℕ
rows_of name None = too_long
rows_of name (Some texts) = fitting (rows_from name true texts)

abbrev pub held_rows : Held → List ℕ
held_rows e = rows_of e.name e.texts

-- what lines give after an entry so far
abbrev pub given_lines : Held → List (List ℕ) → List ℕ
given_lines e [] = held_rows e
given_lines e (line ∷ more) =
    if length line == 0 then held_rows e ++ given_lines fresh more
    else if is_dn line then held_rows e ++ given_lines (named line) more else given_lines (with_line e line) more
