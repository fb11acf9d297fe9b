-- What an answer of a row says of the answer of the scheme.
use Rattle.std.proofs.Common.{◌≡◌, Bool, Result, Ok, Err, refl}
use Rattle.stored_check.specs.declared.error.StoredError.{StoredError}
use Rattle.md5_plain.specs.declared.error.Md5Fault.{Md5Fault}
use Rattle.any_check.specs.Table.{of_md5, of_stored}
use Rattle.any_check.specs.declared.error.AnyError.{AnyError}

abbrev pub as_any : Bool → Result Bool AnyError
as_any b = Ok b

abbrev pub as_stored : Bool → Result Bool StoredError
as_stored b = Ok b

abbrev pub as_md5 : Bool → Result Bool Md5Fault
as_md5 b = Ok b

pub stored_ok : (r : Result Bool StoredError) (b : Bool) → of_stored r ≡ as_any b → r ≡ as_stored b
stored_ok (Ok x) b h = cc
stored_ok (Err e) b h = cc

pub md5_ok : (r : Result Bool Md5Fault) (b : Bool) → of_md5 r ≡ as_any b → r ≡ as_md5 b
md5_ok (Ok x) b h = cc
md5_ok (Err e) b h = cc

-- an answer on what was read: it is a value, and it matches or not
pub record IsTold {M E : Type 0} (read : Result M E) (same : M → Bool) (matches : Bool) : Type 0 where
  pub means : M
  pub are : read ≡ Ok means
  pub told : same means ≡ matches

pub told_of : {M E A : Type 0} (answer : Result M E → A) (wanted : Bool → A) (same : M → Bool)
    → ((e : E) (b : Bool) → answer (Err e) ≡ wanted b → ⊥)
    → ((m : M) (b : Bool) → answer (Ok m) ≡ wanted b → same m ≡ b)
    → (r : Result M E) (b : Bool) → answer r ≡ wanted b → IsTold r same b
told_of answer wanted same none some (Err e) b h = absurd (none e b h)
told_of answer wanted same none some (Ok m) b h = record { means = m; are = refl; told = some m b h }
