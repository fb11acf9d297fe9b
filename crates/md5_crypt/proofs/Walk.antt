-- The verdict by its cases.
use Rattle.std.proofs.Common.{◌≡◌, ℕ, ◌<◌, ◌≤◌, Bool, true, false, List, length, refl, sym, ap, ◌∙◌, arith, Result, Err}
use Rattle.std.proofs.Common.{inl, inr}
use Rattle.std.specs.Prelude.{nat_lt, Some, None}
use Rattle.std.proofs.lemmas.Bool.{false≢true}
use Rattle.std.proofs.lemmas.Bool.Decides.{nat_tests}
use Rattle.mcf.specs.Grammar.{mcf, fault, parts}
use Rattle.mcf.specs.declared.error.Error as mcf_error
use Rattle.phc.specs.declared.password_hash.PasswordHash.{PasswordHash}
use Rattle.md5_plain.specs.Verdict.{magic_of, md5_verdict}
use Rattle.md5_plain.specs.declared.magic.Magic.{Magic}
use Rattle.stored_check.proofs.Causes.{fits}
use Rattle.stored_check.specs.Verdict.{may_lack_memory, mcf_name, verdict}
use Rattle.stored_check.specs.declared.error.StoredError.TheVariants.{PasswordTooLong, Mcf}
use Rattle.md5_crypt.specs.Verdict.{IsLegacyVerdict, legacy_may_lack, legacy_verdict, md5_answer, stored_answer}
use Rattle.md5_crypt.specs.declared.error.LegacyError.{LegacyError}
use Rattle.md5_crypt.specs.declared.error.LegacyError.TheVariants.{Stored}

module _ (accepted : PasswordHash → List ℕ → ℕ → Bool) (tag : List ℕ → PasswordHash → List ℕ → ℕ → List ℕ)
    (needs_memory : PasswordHash → Bool) (password stored : List ℕ) where
  abbrev pub Whole : Result Bool LegacyError → Type 0
  Whole r = IsLegacyVerdict (legacy_verdict accepted tag password stored)
      (legacy_may_lack accepted needs_memory tag password stored) r

  -- what is answered by `check_stored`
  abbrev pub Other : Result Bool LegacyError → Type 0
  Other r = IsLegacyVerdict (stored_answer (verdict accepted tag password stored))
      (may_lack_memory accepted needs_memory tag password stored) r

  pub too_long : 4096 < length password → Whole (Err (Stored PasswordTooLong))
  unfolding legacy_verdict
  too_long h = let test : nat_lt 4096 (length password) ≡ true = grind (arith, nat_tests) in inl (rw test refl)

  verdict_of_fault : (e : mcf_error.Error) → length password ≤ 4096 → fault stored ≡ Some e
      → verdict accepted tag password stored ≡ Err (Mcf (mcf_name e))
  unfolding verdict mcf
  verdict_of_fault e short bad = rw (fits password short, bad) refl

  legacy_of_fault : (e : mcf_error.Error) → length password ≤ 4096 → fault stored ≡ Some e
      → legacy_verdict accepted tag password stored ≡ Err (Stored (Mcf (mcf_name e)))
  unfolding legacy_verdict mcf
  legacy_of_fault e short bad = rw (fits password short, bad) refl

  no_lack : (e : mcf_error.Error) → length password ≤ 4096 → fault stored ≡ Some e
      → may_lack_memory accepted needs_memory tag password stored ≡ false
  unfolding may_lack_memory
  no_lack e short bad = rw (verdict_of_fault e short bad) refl

  pub not_a_text : (e : mcf_error.Error) (r : Result Bool LegacyError) → length password ≤ 4096 → fault stored ≡ Some e
      → Other r → Whole r
  not_a_text e r short bad h = elim h [
    | inl a ↦ inl (a ∙ ap stored_answer (verdict_of_fault e short bad) ∙ sym (legacy_of_fault e short bad))
    | inr b ↦ absurd (false≢true (sym (no_lack e short bad) ∙ b.1))
  ]

  pub md5_text : (magic : Magic) (r : Result Bool LegacyError) → length password ≤ 4096 → fault stored ≡ None
      → magic_of (parts stored).id ≡ Some magic
      → r ≡ md5_answer (md5_verdict magic password (parts stored).fields) → Whole r
  unfolding legacy_verdict mcf
  md5_text magic r short valid is h = inl (h ∙ rw (fits password short, valid, is) refl)

  legacy_is : length password ≤ 4096 → fault stored ≡ None → magic_of (parts stored).id ≡ None
      → legacy_verdict accepted tag password stored ≡ stored_answer (verdict accepted tag password stored)
  unfolding legacy_verdict mcf
  legacy_is short valid none = rw (fits password short, valid, none) refl

  lack_is : fault stored ≡ None → magic_of (parts stored).id ≡ None
      → legacy_may_lack accepted needs_memory tag password stored
      ≡ may_lack_memory accepted needs_memory tag password stored
  unfolding legacy_may_lack mcf
  lack_is valid none = rw (valid, none) refl

  pub other_text : (r : Result Bool LegacyError) → length password ≤ 4096 → fault stored ≡ None
      → magic_of (parts stored).id ≡ None → Other r → Whole r
  other_text r short valid none h = rw (legacy_is short valid none, lack_is valid none) h
