-- A text whose identifier names a family, checked by that family's call.
use Rattle.std.proofs.Common.{◌≡◌, ℕ, ◌+◌, ◌*◌, ◌/◌, ◌≤◌, Bool, true, false, List, length, refl, sym, ap, ◌∙◌, arith}
use Rattle.std.proofs.Common.{Result}
use Rattle.std.specs.Prelude.{Some, None, OnOk, codes, if◌then◌else◌}
use Rattle.std.specs.Option.{option_map}
use Rattle.base64ct.specs.Encoding.{byte_count, unpadded_len}
use Rattle.mcf.specs.Grammar.{fault, parts}
use Rattle.phc.specs.declared.password_hash.PasswordHash.{PasswordHash}
use Rattle.sha_crypt.specs.Check.{check_answer, is_verdict}
use Rattle.sha_crypt.specs.Families.{Scheme}
use Rattle.sha_crypt.specs.Records.{family_id, family_scheme}
use Rattle.sha_crypt.specs.declared.errors.CheckError.{CheckError}
use Rattle.sha_crypt.specs.declared.errors.Family.{Family}
use Rattle.sha_crypt.specs.declared.errors.Family.TheVariants.{Sha256, Sha512}
use Rattle.sha_crypt.proofs.Digests.{is_scheme}
use Rattle.stored_check.specs.Counts.{verdict_looks, verdict_comparisons}
use Rattle.stored_check.specs.Verdict.{named_family, same_text, scheme_of, sha_verdict}
use Rattle.stored_check.specs.declared.error.StoredError.{StoredError}
use Rattle.stored_check.proofs.Counted.{comparisons_of_family, looks_of_family, on_verdict}
use Rattle.stored_check.proofs.Walk.{Whole, check_is, family_text, sha_is}

-- the identifier of the family that it names
pub id_of_family : (id : List ℕ) (family : Family) → named_family id ≡ Some family
    → same_text id (family_id family) ≡ true
id_of_family id family h = by_tests (same_text id (codes "5")) (same_text id (codes "6")) family refl refl h
  where
    by_tests : (first second : Bool) (family : Family) → same_text id (codes "5") ≡ first
        → same_text id (codes "6") ≡ second
        → (if first then Some Sha256 else (if second then Some Sha512 else None)) ≡ Some family
        → same_text id (family_id family) ≡ true
    by_tests true second Sha256 is is' h = is
    by_tests true second Sha512 is is' h = absurd cc
    by_tests false true Sha256 is is' h = absurd cc
    by_tests false true Sha512 is is' h = is'
    by_tests false false family is is' h = absurd cc

-- the characters of a family's hash field
field_bytes : (family : Family) → byte_count (unpadded_len (family_scheme family).size) ≡ (family_scheme family).size
field_bytes Sha256 = refl
field_bytes Sha512 = refl

field_length : (family : Family) (k : ℕ) → byte_count k ≡ (family_scheme family).size
    → k ≡ unpadded_len (family_scheme family).size
field_length Sha256 k e = let is : k ≡ 43 = omega (arith, e) in is
field_length Sha512 k e = let is : k ≡ 86 = omega (arith, e) in is

module _ (family : Family) (password stored : List ℕ) (answer : Result (Unit {0}) CheckError)
    (checked : answer ≡ check_answer (family_scheme family).hash (family_scheme family).places family (family_id family)
    password stored) (valid : fault stored ≡ None) (named : named_family (parts stored).id ≡ Some family) where
  abbrev scheme : Scheme
  scheme = family_scheme family

  same : same_text (parts stored).id (family_id family) ≡ true
  same = id_of_family (parts stored).id family named

  is : scheme_of (parts stored).id ≡ Some scheme
  is = ap (option_map family_scheme) named

  pub verdict_of_family : (accepted : PasswordHash → List ℕ → ℕ → Bool) (tag : List ℕ → PasswordHash → List ℕ → ℕ
      → List ℕ) (needs_memory : PasswordHash → Bool) (result : Result Bool StoredError)
      → length password ≤ 4096 → result ≡ sha_verdict answer → Whole accepted tag needs_memory password stored result
  verdict_of_family accepted tag needs_memory result short told =
      family_text accepted tag needs_memory password stored scheme result short valid is
      (told ∙ ap sha_verdict checked
      ∙ sha_is scheme family (family_id family) password stored (is_scheme family).places valid same)

  pub looks_on_verdict : (result : Result Bool StoredError) → result ≡ sha_verdict answer → (old new : ℕ)
      → (is_verdict answer ≡ true → new ≡ old + (4 * (unpadded_len scheme.size / 4) + 4))
      → OnOk result (new ≡ old + verdict_looks stored)
  looks_on_verdict result told old new looks =
      rw told (on_verdict answer (λ h.
      let fields = ap is_verdict (sym (checked
      ∙ check_is scheme family (family_id family) password stored (is_scheme family).places valid same)) ∙ h in
      looks h ∙ ap (λ k. old + k) (sym (looks_of_family stored valid scheme password (unpadded_len scheme.size) is
      (field_bytes family) (field_length family) fields))))

  pub comparisons_on_verdict : (result : Result Bool StoredError) → result ≡ sha_verdict answer → (old new : ℕ)
      → (is_verdict answer ≡ true → new ≡ old + (4 + scheme.size))
      → OnOk result (new ≡ old + verdict_comparisons stored)
  comparisons_on_verdict result told old new sames =
      rw told (on_verdict answer
      (λ h. sames h ∙ ap (λ k. old + k) (sym (comparisons_of_family stored valid scheme is))))
