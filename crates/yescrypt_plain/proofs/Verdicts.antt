-- The verdict on a password.
use Rattle.std.proofs.Common.{◌≡◌, ℕ, ◌≤◌, Bool, true, false, List, length, refl, arith, Ok, Err}
use Rattle.std.specs.Prelude.{nat_lt, if◌then◌else◌}
use Rattle.std.proofs.lemmas.Bool.Decides.{nat_tests}
use Rattle.phc_kdf.specs.Limits.{password_max}
use Rattle.yescrypt_plain.specs.Check.{Answer, verdict}
use Rattle.yescrypt_plain.specs.declared.error.CheckError.{CheckError}
use Rattle.yescrypt_plain.specs.declared.error.CheckError.TheVariants.{PasswordTooLong, HashMismatch}

abbrev success : Answer
success = Ok tt

pub no_success : (e : CheckError) → Err e ≡ success → ⊥
no_success e h = cc

abbrev tested : Bool → Bool → Answer
tested long same = if long then Err PasswordTooLong else (if same then Ok tt else Err HashMismatch)

by_tests : (long same : Bool) → tested long same ≡ success → (long ≡ false) × (same ≡ true)
by_tests true same h = absurd (no_success PasswordTooLong h)
by_tests false true h = (refl, refl)
by_tests false false h = absurd (no_success HashMismatch h)

pub passed_verdict : (password : List ℕ) (matches : Bool) → verdict password matches ≡ Ok tt
    → (length password ≤ password_max) × (matches ≡ true)
passed_verdict password matches h =
    let tests = by_tests (nat_lt password_max (length password)) matches h in
    let short = tests.0 in
    (grind (arith, nat_tests, short), tests.1)

pub passing_verdict : (password : List ℕ) (matches : Bool) → length password ≤ password_max → matches ≡ true
    → verdict password matches ≡ Ok tt
passing_verdict password matches short is =
    let test : nat_lt password_max (length password) ≡ false = grind (arith, nat_tests, short) in
    rw (test, is) refl
