-- Users with their passwords.
use Rattle.std.specs.Prelude.{ℕ, Bool, false, List, length, map, fold, nat_lt, ◌&&◌, nat_eq, Option, Some, None}
use Rattle.std.specs.Prelude.{if◌then◌else◌, Vec}
use Rattle.std.specs.Cmp.Lexicographic.{pointwise}
use Rattle.std.specs.Map.{lookup}
use Rattle.indexmap.specs.IndexMap.{insert_entry}
use Rattle.line_io.specs.Limits.{line_max}
use Rattle.shadow_fields.specs.Fields.{has_user, rest_of, user_of}

-- a table of users
abbrev pub UserPasswords : Type 0
UserPasswords = List (List ℕ × List ℕ)

-- two users are the same
abbrev pub is_same : List ℕ → List ℕ → Bool
is_same a b = pointwise nat_eq a b

-- the entries of the map, as a table
abbrev pub rows_of : {A B : Type 0} → List (Vec ℕ A × Vec ℕ B) → UserPasswords
rows_of entries = map (λ entry. (entry.0.items, entry.1.items)) entries

-- the user's password in a table
abbrev pub password_in : UserPasswords → List ℕ → Option (List ℕ)
password_in rows user = lookup (is_same user) rows

-- the table with a password of a user: a new user goes last
abbrev pub with_password : UserPasswords → List ℕ → List ℕ → UserPasswords
with_password rows user password = insert_entry is_same rows user password

-- ---- by the lines of a file

-- a line that is taken has at most 8,192 bytes and a user
abbrev pub is_given : List ℕ → Bool
is_given line = if nat_lt line_max (length line) then false else has_user line

-- a user's password behind a line, where it was `last` before it
abbrev pub password_behind : List ℕ → Option (List ℕ) → List ℕ → Option (List ℕ)
password_behind user last line = if is_given line && is_same user (user_of line) then Some (rest_of line) else last

-- a user's password: what stands behind the colon of the last of the user's lines
unfoldable pub password_of : List (List ℕ) → List ℕ → Option (List ℕ)
password_of ls user = fold (password_behind user) None ls
