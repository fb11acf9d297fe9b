-- The answers on texts that are made, and on which texts there is a verdict.
use Rattle.std.proofs.Common.{◌≡◌, ℕ, ◌≤◌, Bool, true, false, List, length, refl, ap, ◌∙◌, inl, inr, Ok, Err}
use Rattle.std.specs.Prelude.{is_ok, is_some, Option, Some, None, Result}
use Rattle.std.specs.Option.{option_map}
use Rattle.std.specs.Str.{is_utf8}
use Rattle.std.proofs.lemmas.Bool.{false≢true}
use Rattle.std.proofs.lemmas.Str.{IsUtf8-from_ascii, is_utf8-from_IsUtf8}
use Rattle.mcf.specs.Grammar.{Parts, fault, mcf}
use Rattle.mcf.specs.declared.error.Error as mcf_error
use Rattle.mcf.proofs.Ascii.{valid_ascii}
use Rattle.phc.specs.Record.{phc}
use Rattle.phc.specs.declared.error.Error as phc_error
use Rattle.phc.specs.declared.password_hash.PasswordHash.{PasswordHash}
use Rattle.scrypt_plain.specs.Profile.{accepted, cost_of, is_cost_in_bounds, key, needs_memory, scrypt_accepts}
use Rattle.scrypt_plain.specs.declared.profile.Cost as scrypt
use Rattle.scrypt_plain.proofs.Keys as keys
use Rattle.sha_crypt.specs.Families.{Scheme, scheme_fields}
use Rattle.sha_crypt.specs.Fields.{ShaFields}
use Rattle.sha_crypt.specs.declared.errors.CheckError.{CheckError}
use Rattle.stored_check.specs.Verdict.{key_answer, parts_answer, phc_answer, scheme_of, sha_answer, text_answer, verdict}
use Rattle.stored_check.proofs.Causes.{fits}
use Rattle.stored_check.proofs.Walk.{not_a_text}
use Rattle.pwcheck_c.specs.Costs.{fields_cost, mixed_bytes, parts_cost, phc_cost, record_cost, stored_cost, text_cost}
use Rattle.pwcheck_c.specs.Inputs.{is_password}
use Rattle.pwcheck_c.specs.Verdicts.{answer, family_answer, of_family}
use Rattle.pwcheck_c.specs.declared.answer.Answer.TheVariants.{Checked}

-- ---- a text with a verdict is ASCII

valid_of_verdict : (password stored : List ℕ) (b : Bool) → length password ≤ 4096
    → verdict accepted key password stored ≡ Ok b → fault stored ≡ None
valid_of_verdict password stored b short is = by_fault (fault stored) refl
  where
    by_fault : (o : Option mcf_error.Error) → fault stored ≡ o → o ≡ None
    by_fault None h = refl
    by_fault (Some e) h =
        elim (not_a_text accepted key needs_memory password stored e short h)
        [ inl same ↦ absurd (let err = same ∙ is in cc) | inr want ↦ absurd (let err = want.0 in cc) ]

pub text_of_verdict : (password stored : List ℕ) (b : Bool) → length password ≤ 4096
    → verdict accepted key password stored ≡ Ok b → is_utf8 stored ≡ true
text_of_verdict password stored b short is =
    is_utf8-from_IsUtf8 stored
    (IsUtf8-from_ascii stored (valid_ascii stored (valid_of_verdict password stored b short is)))

-- ---- answers

pub answer_of_match : (password stored : List ℕ) → length password ≤ 4096 → is_utf8 password ≡ true
    → verdict accepted key password stored ≡ Ok true → answer password stored ≡ Checked (Ok true)
unfolding answer
answer_of_match password stored short text is =
    rw (text, text_of_verdict password stored true short is) (ap Checked is)

pub family_match : (check : List ℕ → List ℕ → Result (Unit {0}) CheckError) (password stored : List ℕ)
    → is_password password ≡ true → is_utf8 password ≡ true → is_utf8 stored ≡ true → check password stored ≡ Ok tt
    → family_answer check password stored ≡ Checked (Ok true)
unfolding family_answer
family_match check password stored short text valid is = rw (text, valid, short) (ap of_family is)

-- ---- the cost of a valid text

some_cost : (o : Option scrypt.Cost) → is_cost_in_bounds o ≡ true → is_some (option_map mixed_bytes o) ≡ true
some_cost None h = absurd (false≢true h)
some_cost (Some c) h = refl

accepted_cost : (r : PasswordHash) (n : ℕ) → scrypt_accepts r n ≡ true
    → is_some (option_map mixed_bytes (cost_of r)) ≡ true
accepted_cost r n h = some_cost (cost_of r) (keys.accepted_cost r n h)

module _ (password : List ℕ) where
  by_key : (r : PasswordHash) (salt hash : Option (List ℕ))
      → is_some (record_cost r salt hash) ≡ is_ok (key_answer accepted key password r salt hash)
  by_key r None None = refl
  by_key r None (Some hash) = refl
  by_key r (Some salt) None = refl
  by_key r (Some salt) (Some hash) = by_test (scrypt_accepts r (length hash)) refl
    where
      by_test : (t : Bool) → scrypt_accepts r (length hash) ≡ t
          → is_some (record_cost r (Some salt) (Some hash))
          ≡ is_ok (key_answer accepted key password r (Some salt) (Some hash))
      by_test false is = rw is refl
      by_test true is = rw is (accepted_cost r (length hash) is)

  by_phc : (a : Result PasswordHash phc_error.Error)
      → is_some (phc_cost a) ≡ is_ok (phc_answer accepted key password a)
  by_phc (Err e) = refl
  by_phc (Ok r) = by_key r r.salt r.hash

  by_fields : (s : Scheme) (f : Result ShaFields CheckError) → is_some (fields_cost f) ≡ is_ok (sha_answer s password f)
  by_fields s (Err e) = refl
  by_fields s (Ok f) = refl

  by_parts : (o : Option Scheme) (p : Parts) → is_some (parts_cost o p) ≡ is_ok (parts_answer accepted key password o p)
  by_parts None p = by_phc (phc p.id p.fields)
  by_parts (Some s) p = by_fields s (scheme_fields s p.fields)

  by_text : (m : Result Parts mcf_error.Error) → is_some (text_cost m) ≡ is_ok (text_answer accepted key password m)
  by_text (Err e) = refl
  by_text (Ok p) = by_parts (scheme_of p.id) p

  pub cost_of_valid : (stored : List ℕ) → length password ≤ 4096
      → is_some (stored_cost stored) ≡ is_ok (verdict accepted key password stored)
  unfolding stored_cost verdict
  cost_of_valid stored short = rw (fits password short) (by_text (mcf stored))
