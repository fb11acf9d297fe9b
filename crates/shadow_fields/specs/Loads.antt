-- What the loading of a table did.
use Rattle.std.specs.Prelude.{◌≡◌, ◌<◌, ◌≤◌, ℕ, Bool, true, List, [], length, if◌then◌else◌}
use Rattle.std.specs.List.{list_all, list_any}
use Rattle.line_io.specs.Lines.{lines}
use Rattle.shadow_fields.specs.Passwords.{UserPasswords, is_given, password_in, password_of}

-- What a reading that wasn't finished says of the lines of its source, which held `held`. `takes_memory` says at which lines
-- memory is asked for.
pub record Unfinished (takes_memory : List ℕ → Bool) (status max : ℕ) (held : List ℕ) : Type 0 where
  pub unfinished : 1 < status
  -- 6: the source holds more
  pub budget : status ≡ 6 → max < length held
  -- 5: there is a line at which memory is asked for
  pub out_of_memory : status ≡ 5 → list_any takes_memory (lines held) ≡ true

-- The source held `held`, of which `taken` was taken; `added` was added to the sink.
pub record Loaded (rows : UserPasswords) (status max : ℕ) (held taken added : List ℕ) : Type 0 where
  -- 0 and 1: all was taken, and each user has the password of the user's last line
  pub done : status ≤ 1 → (length held ≤ max) × (taken ≡ held)
      × ((user : List ℕ) → password_in rows user ≡ password_of (lines held) user)
  -- 0 where each line was taken
  pub verdict : status ≤ 1 → status ≡ (if list_all is_given (lines held) then 0 else 1)
  -- else the reading wasn't finished: memory is asked for at each line that is taken
  pub early : 1 < status → Unfinished is_given status max held
  -- nothing is written
  pub nothing : added ≡ []
