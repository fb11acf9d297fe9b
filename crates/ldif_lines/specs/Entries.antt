-- The entries of a dump, and the lines of a user, a colon and a text that each gives.
use Rattle.std.specs.Prelude.{ℕ, ◌==◌, List, [], ◌∷◌, ◌++◌, length, map, nat_lt, replicate, if◌then◌else◌}
use Rattle.std.specs.List.{filter, flat_map, onto_first}
use Rattle.ldif_lines.specs.Attributes.{is_dn, is_password, is_uid, line_name, line_text, no_name}
use Rattle.ldif_lines.specs.Limits.{rows_most}

-- The lines of each entry: an empty line ends an entry, and a line of a distinguished name begins one.
abbrev pub entries : List (List ℕ) → List (List (List ℕ))
entries [] = [] ∷ []
entries (line ∷ more) =
    if length line == 0 then [] ∷ entries more
    else if is_dn line then [] ∷ onto_first line (entries more) else onto_first line (entries more)

-- the distinguished name with which an entry begins
abbrev pub dn_name : List (List ℕ) → List ℕ
dn_name [] = no_name
dn_name (line ∷ more) = if is_dn line then line_name line else no_name

-- the name by the first `uid`, or else this one
abbrev pub uid_name : List ℕ → List (List ℕ) → List ℕ
uid_name other [] = other
uid_name other (line ∷ more) = if is_uid line then line_name line else uid_name other more

-- The name of an entry: its first `uid`, or else its distinguished name.
abbrev pub entry_name : List (List ℕ) → List ℕ
entry_name entry = uid_name (dn_name entry) entry

-- its texts, in their order
abbrev pub entry_texts : List (List ℕ) → List (List ℕ)
entry_texts entry = map line_text (filter is_password entry)

-- a name, a colon, a text and a line feed
abbrev pub row : List ℕ → List ℕ → List ℕ
row name text = name ++ 58 ∷ (text ++ 10 ∷ [])

-- a line of 8,193 bytes, which is more than a program over lines takes
unfoldable pub too_long : List ℕ
too_long = replicate 8193 120 ++ 10 ∷ []

-- the lines, or one that is too long where they have too many bytes
unfoldable pub fitting : List ℕ → List ℕ
fitting rows = if nat_lt rows_most (length rows) then too_long else rows

-- A line for each text of an entry.
abbrev pub entry_rows : List (List ℕ) → List ℕ
entry_rows entry = fitting (flat_map (row (entry_name entry)) (entry_texts entry))
