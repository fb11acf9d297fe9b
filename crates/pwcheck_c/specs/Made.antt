-- What the calls that make a text for a salt that is handed in answer and write.
use Rattle.std.specs.Prelude.{◌≡◌, ◌⊎◌, ℕ, ℤ, true, List, Result, Ok, Err, is_ok}
use Rattle.any_make.specs.declared.error.MakeFault.{MakeFault}
use Rattle.any_make.specs.declared.scheme.MakeCost.{MakeCost}
use Rattle.any_make.specs.declared.scheme.MakeCost.TheVariants as cost
use Rattle.any_make.specs.declared.error.MakeFault.TheVariants.{BufferShort, Cost, NotUtf8, OutOfMemory, PasswordTooLong, Salt, ZeroByte}
use Rattle.c_buffers.specs.Statuses.{status_no_memory, status_no_room}
use Rattle.pwcheck_c.specs.Statuses.{status_out_of_range}
use Rattle.pwcheck_c.specs.Statuses.{status_refused_length, status_refused_utf8, status_refused_zero}
use Rattle.c_buffers.specs.Put.{IsPut, IsRefused}

-- ---- costs, by the numbers of a call

-- N = 2 ^ ln rows of r blocks, and t turns more
abbrev pub yescrypt_cost : ℕ → ℕ → ℕ → MakeCost
yescrypt_cost ln r t = cost.Yescrypt (record { ln = ln; r = r; t = t })

-- the memory in KiB, the passes over it, the lanes
abbrev pub argon2id_cost : ℕ → ℕ → ℕ → MakeCost
argon2id_cost memory passes lanes = cost.Argon2id (record { memory = memory; passes = passes; lanes = lanes })

-- ---- answers

-- the status of a cause that no text is made: a cost and a salt are the program's, a password is its user's
abbrev pub fault_status : MakeFault → ℤ
fault_status Cost = status_out_of_range
fault_status Salt = status_out_of_range
fault_status PasswordTooLong = status_refused_length
fault_status NotUtf8 = status_refused_utf8
fault_status ZeroByte = status_refused_zero
fault_status OutOfMemory = status_no_memory
fault_status BufferShort = status_no_room

-- the text that is made stands at the front of what was old and is new, where there is room; or the cause that none is made
-- is told
abbrev pub IsMade : Result (List ℕ) MakeFault → List ℕ → List ℕ → ℕ → ℕ → ℤ → Type 0
IsMade (Ok text) old new n_old n_new status = IsPut text old new n_old n_new status
IsMade (Err e) old new n_old n_new status = IsRefused (fault_status e) old new n_old n_new status

-- the same; or memory is wanting for the key of a text that would be made
abbrev pub IsMadeOrLacks : Result (List ℕ) MakeFault → List ℕ → List ℕ → ℕ → ℕ → ℤ → Type 0
IsMadeOrLacks expected old new n_old n_new status =
    IsMade expected old new n_old n_new status
    ⊎ ((is_ok expected ≡ true) × IsRefused status_no_memory old new n_old n_new status)
