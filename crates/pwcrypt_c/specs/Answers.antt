-- The answers to C.
use Rattle.std.specs.Prelude.{◌≡◌, ◌⊎◌, ℕ, ℤ, Bool, true, List, Option, Some, None, Ok, Err}
use Rattle.crypt_text.specs.Texts.{Answer}
use Rattle.c_buffers.specs.Statuses.{status_no_memory}
use Rattle.pwcrypt_c.specs.Statuses.{error_status, status_no_setting}
use Rattle.c_buffers.specs.Put.{IsPut, IsRefused}

-- a text is put, or the cause that there is none is told
abbrev pub IsTold : Answer → List ℕ → List ℕ → ℕ → ℕ → ℤ → Type 0
IsTold (Ok text) old new n_old n_new status = IsPut text old new n_old n_new status
IsTold (Err e) old new n_old n_new status = IsRefused (error_status e) old new n_old n_new status

-- the same of the answer that is expected; or want of memory, where that may be
abbrev pub IsTextTold : Answer → Bool → List ℕ → List ℕ → ℕ → ℕ → ℤ → Type 0
IsTextTold expected lacking old new n_old n_new status =
    IsTold expected old new n_old n_new status
    ⊎ (IsRefused status_no_memory old new n_old n_new status × (lacking ≡ true))

-- a setting is put, where there is one
abbrev pub IsSettingTold : Option (List ℕ) → List ℕ → List ℕ → ℕ → ℕ → ℤ → Type 0
IsSettingTold None old new n_old n_new status = IsRefused status_no_setting old new n_old n_new status
IsSettingTold (Some setting) old new n_old n_new status = IsPut setting old new n_old n_new status
