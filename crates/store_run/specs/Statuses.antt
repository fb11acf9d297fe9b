-- The statuses of a program over a table of users in a file.
use Rattle.std.specs.Prelude.{◌≡◌, ◌≢◌, ◌≤◌, ◌⊎◌, ℕ, Option, None, Some}
use Rattle.file_device.specs.declared.fault.DeviceFault.{DeviceFault}
use Rattle.file_device.specs.declared.fault.DeviceFault.TheVariants as failed
use Rattle.file_device.specs.declared.opening.OpenFault.{OpenFault}
use Rattle.file_device.specs.declared.opening.OpenFault.TheVariants as unopened
use Rattle.line_log.specs.declared.reopen.OpenError.{OpenError}
use Rattle.line_log.specs.declared.reopen.OpenError.TheVariants as untaken

-- those of a run; or the file isn't one that a run can have left (65), can't be opened (66), can't be replaced by a new one
-- (73) or is in use (75)
abbrev pub IsTableStatus : ℕ → Type 0
IsTableStatus status =
    ((status ≤ 7) × (status ≢ 2)) ⊎ ((status ≡ 65) ⊎ ((status ≡ 66) ⊎ ((status ≡ 73) ⊎ (status ≡ 75))))

-- of a file that isn't opened
abbrev pub unopened_status : OpenFault → ℕ
unopened_status unopened.InUse = 75
unopened_status unopened.NotAFile = 66
unopened_status unopened.TooLong = 65
unopened_status unopened.NoStandardStream = 66
unopened_status (unopened.Io error) = 66
unopened_status unopened.OutOfMemory = 5

-- of a call of the file that failed: of a write, or of a new file
abbrev pub failed_status : Option DeviceFault → ℕ
failed_status None = 7
failed_status (Some (failed.Io error)) = 7
failed_status (Some failed.Moved) = 7
failed_status (Some failed.InUse) = 75
failed_status (Some failed.NameTaken) = 73
failed_status (Some failed.Shared) = 73

-- of a file that is opened and isn't taken, or isn't made
abbrev pub untaken_status : Option DeviceFault → OpenError → ℕ
untaken_status cause untaken.NoHeader = 65
untaken_status cause (untaken.BadLine place) = 65
untaken_status cause (untaken.BadEnd place) = 65
untaken_status cause untaken.Failed = failed_status cause
untaken_status cause untaken.OutOfMemory = 5
