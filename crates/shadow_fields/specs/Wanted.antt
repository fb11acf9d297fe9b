-- The passwords of those users alone who are wanted.
use Rattle.std.specs.Prelude.{◌≡◌, ◌<◌, ◌≤◌, ℕ, Bool, List, [], length, Option, None, is_some, ◌&&◌, if◌then◌else◌}
use Rattle.std.specs.List.{list_all}
use Rattle.line_io.specs.Lines.{lines}
use Rattle.shadow_fields.specs.Fields.{rest_of, user_of}
use Rattle.shadow_fields.specs.Loads.{Unfinished}
use Rattle.shadow_fields.specs.Passwords.{UserPasswords, is_given, password_in, password_of, with_password}

-- a user is in a table
abbrev pub is_in : UserPasswords → List ℕ → Bool
is_in rows user = is_some (password_in rows user)

-- a user has a line that is taken
abbrev pub has_line : List (List ℕ) → List ℕ → Bool
has_line ls user = is_some (password_of ls user)

-- a line that is taken, of a user who is wanted
abbrev pub is_wanted_line : (List ℕ → Bool) → List ℕ → Bool
is_wanted_line is_wanted line = is_given line && is_wanted (user_of line)

-- the table after a line: a user who isn't wanted is left out
abbrev pub wanted_behind : (List ℕ → Bool) → UserPasswords → List ℕ → UserPasswords
wanted_behind is_wanted rows line =
    if is_wanted_line is_wanted line then with_password rows (user_of line) (rest_of line) else rows

-- a wanted user's password: what stands behind the colon of the last of the user's lines
abbrev pub wanted_password : (List ℕ → Bool) → List (List ℕ) → List ℕ → Option (List ℕ)
wanted_password is_wanted ls user = if is_wanted user then password_of ls user else None

-- What the loading of such a table did. The source held `held`, of which `taken` was taken; `added` was added to the sink.
pub record LoadedWanted (is_wanted : List ℕ → Bool) (rows : UserPasswords) (status max : ℕ) (held taken added : List ℕ) : Type 0 where
  -- 0 and 1: all was taken, and each wanted user has the password of the user's last line, each other none
  pub done : status ≤ 1 → (length held ≤ max) × (taken ≡ held)
      × ((user : List ℕ) → password_in rows user ≡ wanted_password is_wanted (lines held) user)
  -- 0 where each line was taken
  pub verdict : status ≤ 1 → status ≡ (if list_all is_given (lines held) then 0 else 1)
  -- else the reading wasn't finished: memory is asked for at each line of a wanted user
  pub early : 1 < status → Unfinished (is_wanted_line is_wanted) status max held
  -- nothing is written
  pub nothing : added ≡ []
