-- What is written for C.
use Rattle.std.specs.Prelude.{◌≡◌, ℕ, ℤ, ◌<◌, ◌≤◌, List, ◌++◌, length, drop}
use Rattle.c_buffers.specs.Statuses.{status_done, status_no_room}

-- the text stands at the front of what was old and is new, and its length is told, where there is room
pub record IsPut (text old new : List ℕ) (n_old n_new : ℕ) (status : ℤ) : Type 0 where
  pub room : length text ≤ length old → (status ≡ status_done) × (n_new ≡ length text) × (new ≡ text ++ drop n_new old)
  pub no_room : length old < length text → (status ≡ status_no_room) × (new ≡ old) × (n_new ≡ n_old)

-- nothing is written, and the answer is this status
abbrev pub IsRefused : ℤ → List ℕ → List ℕ → ℕ → ℕ → ℤ → Type 0
IsRefused cause old new n_old n_new status = (status ≡ cause) × (new ≡ old) × (n_new ≡ n_old)
