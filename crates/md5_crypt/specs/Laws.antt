-- Laws over the definitions.
use Rattle.std.specs.Prelude.{◌≢◌, ℕ, Bool, List, Err}
use Rattle.phc.specs.declared.password_hash.PasswordHash.{PasswordHash}
use Rattle.stored_check.specs.declared.error.StoredError.TheVariants.{OutOfMemory}
use Rattle.md5_crypt.specs.declared.error.LegacyError.TheVariants.{Stored}
use Rattle.md5_crypt.specs.Verdict.{legacy_verdict}

-- want of memory is no verdict and no cause
abbrev pub NoWantOfMemory : Type 0
NoWantOfMemory =
    (accepted : PasswordHash → List ℕ → ℕ → Bool) (tag : List ℕ → PasswordHash → List ℕ → ℕ → List ℕ)
    (password stored : List ℕ)
    → legacy_verdict accepted tag password stored ≢ Err (Stored OutOfMemory)
