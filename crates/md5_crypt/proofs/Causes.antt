-- The definition of the verdict never gives want of memory.
use Rattle.std.proofs.Common.{◌≢◌, ℕ, Bool, true, false, List, length, Option, Some, None, Result, Ok, Err}
use Rattle.std.specs.Prelude.{nat_lt, if◌then◌else◌}
use Rattle.mcf.specs.Grammar.{mcf, Parts}
use Rattle.mcf.specs.declared.error.Error as mcf_error
use Rattle.phc.specs.declared.password_hash.PasswordHash.{PasswordHash}
use Rattle.stored_check.specs.Verdict.{verdict}
use Rattle.stored_check.specs.declared.error.StoredError.{StoredError}
use Rattle.stored_check.specs.declared.error.StoredError.TheVariants.{OutOfMemory}
use Rattle.stored_check.proofs.Causes.{never_memory}
use Rattle.md5_plain.specs.Verdict.{magic_of, md5_verdict}
use Rattle.md5_plain.specs.declared.error.Md5Fault.{Md5Fault}
use Rattle.md5_plain.specs.declared.magic.Magic.{Magic}
use Rattle.md5_crypt.specs.Verdict.{legacy_verdict, md5_answer, legacy_parts_answer}
use Rattle.md5_crypt.specs.Verdict.{stored_answer, legacy_text_answer}
use Rattle.md5_crypt.specs.declared.error.LegacyError.{LegacyError}
use Rattle.md5_crypt.specs.declared.error.LegacyError.TheVariants.{Stored}

abbrev Other : Result Bool LegacyError → Type 0
Other r = r ≢ Err (Stored OutOfMemory)

by_test : (t : Bool) (x y : Result Bool LegacyError) → Other x → Other y → Other (if t then x else y)
by_test true x y hx hy = hx
by_test false x y hx hy = hy

of_md5 : (r : Result Bool Md5Fault) → Other (md5_answer r)
of_md5 (Err e) = λ h. cc
of_md5 (Ok b) = λ h. cc

of_stored : (r : Result Bool StoredError) → r ≢ Err OutOfMemory → Other (stored_answer r)
of_stored (Ok b) other = λ h. cc
of_stored (Err e) other = λ h. other cc

module _ (accepted : PasswordHash → List ℕ → ℕ → Bool) (tag : List ℕ → PasswordHash → List ℕ → ℕ → List ℕ)
    (password stored : List ℕ) where
  of_parts : (o : Option Magic) (p : Parts) → Other (legacy_parts_answer accepted tag password stored o p)
  of_parts (Some magic) p = of_md5 (md5_verdict magic password p.fields)
  of_parts None p = of_stored (verdict accepted tag password stored) (never_memory accepted tag password stored)

  of_text : (r : Result Parts mcf_error.Error) → Other (legacy_text_answer accepted tag password stored r)
  of_text (Err e) = λ h. cc
  of_text (Ok p) = of_parts (magic_of p.id) p

  pub never_lacks : Other (legacy_verdict accepted tag password stored)
  unfolding legacy_verdict
  never_lacks = by_test (nat_lt 4096 (length password)) _ _ (λ h. cc) (of_text (mcf stored))
