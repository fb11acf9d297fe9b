-- The verdict under a bound, by its cases.
use Rattle.std.proofs.Common.{◌≡◌, ℕ, ◌<◌, ◌≤◌, Bool, true, false, List, length, refl, arith, inl, Some, None, Result, Err}
use Rattle.std.specs.Prelude.{is_ok, nat_lt}
use Rattle.mcf.specs.Grammar.{fault, mcf}
use Rattle.mcf.specs.declared.error.Error as mcf_error
use Rattle.std.proofs.lemmas.Bool.Decides.{nat_tests}
use Rattle.phc.specs.declared.password_hash.PasswordHash.{PasswordHash}
use Rattle.stored_check.proofs.Causes.{fits}
use Rattle.stored_check.specs.declared.error.StoredError.TheVariants.{PasswordTooLong}
use Rattle.any_check.specs.Cost.{is_costly, verdict_within, within_may_lack}
use Rattle.any_check.specs.Table.{IsAnyVerdict, any_may_lack, any_verdict}
use Rattle.any_check.specs.declared.numbers.SchemeCosts.{SchemeCosts}
use Rattle.any_check.specs.declared.error.AnyError.{AnyError}
use Rattle.any_check.specs.declared.error.AnyError.TheVariants.{Stored, TooCostly}

-- ---- texts in the modular crypt format

pub mcf_of_valid : (stored : List ℕ) → fault stored ≡ None → is_ok (mcf stored) ≡ true
unfolding mcf
mcf_of_valid stored valid = rw valid refl

pub mcf_of_fault : (stored : List ℕ) (e : mcf_error.Error) → fault stored ≡ Some e → is_ok (mcf stored) ≡ false
unfolding mcf
mcf_of_fault stored e bad = rw bad refl

-- ---- the verdict

module _ (accepted : PasswordHash → List ℕ → ℕ → Bool) (limits : SchemeCosts) (stored : List ℕ) where
  module _ (tag : List ℕ → PasswordHash → List ℕ → ℕ → List ℕ) (password : List ℕ) (lack : Bool) where
    abbrev pub Within : Result Bool AnyError → Type 0
    Within r = IsAnyVerdict (verdict_within accepted tag limits password stored) lack r

    pub long_within : 4096 < length password → Within (Err (Stored PasswordTooLong))
    unfolding verdict_within
    long_within h = let test : nat_lt 4096 (length password) ≡ true = grind (arith, nat_tests) in inl (rw test refl)

    pub costly_within : length password ≤ 4096 → is_costly accepted limits stored ≡ true → Within (Err TooCostly)
    unfolding verdict_within
    costly_within short costly = inl (rw (fits password short, costly) refl)

  pub cheap_within : (tag : List ℕ → PasswordHash → List ℕ → ℕ → List ℕ) (password : List ℕ)
      (needs_memory : PasswordHash → Bool) → length password ≤ 4096 → is_costly accepted limits stored ≡ false
      → (r : Result Bool AnyError) → IsAnyVerdict (any_verdict accepted tag password stored)
      (any_may_lack accepted needs_memory tag password stored) r → IsAnyVerdict
      (verdict_within accepted tag limits password stored)
      (within_may_lack accepted needs_memory tag limits password stored) r
  unfolding verdict_within within_may_lack
  cheap_within tag password needs_memory short cheap r told = rw (fits password short, cheap) told
