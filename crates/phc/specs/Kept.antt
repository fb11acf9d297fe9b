-- A text that is kept in memory of its own: its record, its fault, or want of memory.
use Rattle.std.specs.Prelude.{◌≡◌, ◌⊎◌, true, Result, Ok, Err, is_ok}
use Rattle.phc.specs.declared.error.Error.{Error}
use Rattle.phc.specs.declared.error.PhcStringError.{PhcStringError}
use Rattle.phc.specs.declared.error.PhcStringError.TheVariants.{Phc, OutOfMemory}
use Rattle.phc.specs.declared.password_hash.PasswordHash.{PasswordHash}

-- the record that is kept, or the fault
abbrev pub kept : Result PasswordHash Error → Result PasswordHash PhcStringError
kept (Ok r) = Ok r
kept (Err e) = Err (Phc e)

-- the answer is this one; for a record it may be want of memory
abbrev pub IsKept : Result PasswordHash Error → Result PasswordHash PhcStringError → Type 0
IsKept read answer = (answer ≡ kept read) ⊎ ((answer ≡ Err OutOfMemory) × (is_ok read ≡ true))
