-- A short password is no cause, and the definition of the verdict never gives want of memory.
use Rattle.std.proofs.Common.{◌≡◌, ◌≢◌, ℕ, ◌≤◌, Bool, true, false, List, length, arith, Option, Some, None, Result, Ok}
use Rattle.std.proofs.Common.{Err}
use Rattle.std.specs.Prelude.{nat_lt, if◌then◌else◌}
use Rattle.std.proofs.lemmas.Bool.Decides.{nat_tests}
use Rattle.mcf.specs.Grammar.{mcf, Parts}
use Rattle.mcf.specs.declared.error.Error as mcf_error
use Rattle.phc.specs.Record.{phc}
use Rattle.phc.specs.declared.error.Error as phc_error
use Rattle.phc.specs.declared.password_hash.PasswordHash.{PasswordHash}
use Rattle.sha_crypt.specs.Families.{Scheme, scheme_fields}
use Rattle.sha_crypt.specs.Fields.{ShaFields}
use Rattle.sha_crypt.specs.declared.errors.CheckError.{CheckError}
use Rattle.stored_check.specs.declared.error.StoredError.{StoredError}
use Rattle.stored_check.specs.declared.error.StoredError.TheVariants.{OutOfMemory}
use Rattle.stored_check.specs.Verdict.{key_answer, parts_answer, phc_answer, scheme_of, sha_answer, text_answer}
use Rattle.stored_check.specs.Verdict.{verdict}

-- a password that is short enough passes the test of its length
pub fits : (password : List ℕ) → length password ≤ 4096 → nat_lt 4096 (length password) ≡ false
fits password short = grind (arith, nat_tests)

abbrev Other : Result Bool StoredError → Type 0
Other r = r ≢ Err OutOfMemory

by_test : (t : Bool) (x y : Result Bool StoredError) → Other x → Other y → Other (if t then x else y)
by_test true x y hx hy = hx
by_test false x y hx hy = hy

of_sha : (s : Scheme) (password : List ℕ) (r : Result ShaFields CheckError) → Other (sha_answer s password r)
of_sha s password (Err e) = λ h. cc
of_sha s password (Ok f) = λ h. cc

module _ (accepted : PasswordHash → List ℕ → ℕ → Bool) (tag : List ℕ → PasswordHash → List ℕ → ℕ → List ℕ)
    (password : List ℕ) where
  of_key : (r : PasswordHash) (salt hash : Option (List ℕ)) → Other (key_answer accepted tag password r salt hash)
  of_key r None hash = λ h. cc
  of_key r (Some salt) None = λ h. cc
  of_key r (Some salt) (Some hash) = by_test (accepted r salt (length hash)) _ _ (λ h. cc) (λ h. cc)

  of_phc : (r : Result PasswordHash phc_error.Error) → Other (phc_answer accepted tag password r)
  of_phc (Err e) = λ h. cc
  of_phc (Ok r) = of_key r r.salt r.hash

  of_parts : (o : Option Scheme) (p : Parts) → Other (parts_answer accepted tag password o p)
  of_parts (Some s) p = of_sha s password (scheme_fields s p.fields)
  of_parts None p = of_phc (phc p.id p.fields)

  of_text : (r : Result Parts mcf_error.Error) → Other (text_answer accepted tag password r)
  of_text (Err e) = λ h. cc
  of_text (Ok p) = of_parts (scheme_of p.id) p

  pub never_memory : (stored : List ℕ) → Other (verdict accepted tag password stored)
  unfolding verdict
  never_memory stored = by_test (nat_lt 4096 (length password)) _ _ (λ h. cc) (of_text (mcf stored))
