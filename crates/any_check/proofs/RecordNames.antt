-- The derivation of this crate takes no record but those of the table.
use Rattle.std.proofs.Common.{◌≡◌, ℕ, Bool, true, false, List, refl, ap, ◌∙◌, Option, Some, None}
use Rattle.std.specs.Prelude.{◌&&◌, cond, codes}
use Rattle.std.proofs.lemmas.Bool.{false≢true}
use Rattle.phc.specs.declared.password_hash.PasswordHash.{PasswordHash}
use Rattle.stored_check.specs.Verdict.{same_text}
use Rattle.phc_kdf.specs.Numbers.{number}
use Rattle.argon2_plain.specs.Profile.{are_taken, argon2_accepts, params_from, params_of, variant_of}
use Rattle.argon2_plain.specs.declared.variant.Variant.{Variant}
use Rattle.argon2_plain.specs.declared.variant.Variant.TheVariants.{D, I, Id}
use Rattle.base64ct.proofs.DecodingLaws.{same_true}
use Rattle.scheme_list.specs.Schemes.{scheme_named}
use Rattle.any_check.specs.Laws.{TakesRecordsHere}
use Rattle.any_check.specs.Records.{accepted}
use Rattle.any_check.specs.Table.{is_record}

taken_first : (a b c d e : Bool) → a && b && c && d && e ≡ true → a ≡ true
taken_first true b c d e h = refl
taken_first false b c d e h = absurd (false≢true h)

no_params : (v : Option Variant) (m t p : Option ℕ) → v ≡ None → are_taken (params_from v m t p) ≡ true → ⊥
no_params None m t p none h = false≢true h
no_params (Some v) m t p none h = cc

module _ (r : PasswordHash) (salt : List ℕ) (n : ℕ) where
  -- the table has the name
  by_name : (name : List ℕ) → is_record (scheme_named name) ≡ true → same_text r.algorithm name ≡ true
      → is_record (scheme_named r.algorithm) ≡ true
  by_name name of is = ap (λ (id : List ℕ). is_record (scheme_named id)) (same_true r.algorithm name is) ∙ of

  by_variants : (d i id : Bool) → same_text r.algorithm (codes "argon2d") ≡ d → same_text r.algorithm (codes "argon2i") ≡ i
      → same_text r.algorithm (codes "argon2id") ≡ id
      → (cond d (Some D) (cond i (Some I) (cond id (Some Id) None)) ≡ None → ⊥)
      → is_record (scheme_named r.algorithm) ≡ true
  by_variants true i id is is' is'' h = by_name (codes "argon2d") refl is
  by_variants false true id is is' is'' h = by_name (codes "argon2i") refl is'
  by_variants false false true is is' is'' h = by_name (codes "argon2id") refl is''
  by_variants false false false is is' is'' h = absurd (h refl)

  argon2_named : argon2_accepts r n ≡ true → is_record (scheme_named r.algorithm) ≡ true
  unfolding argon2_accepts
  argon2_named h =
      by_variants (same_text r.algorithm (codes "argon2d")) (same_text r.algorithm (codes "argon2i"))
      (same_text r.algorithm (codes "argon2id")) refl refl refl
      (λ none. no_params (variant_of r.algorithm) (number r (codes "m")) (number r (codes "t")) (number r (codes "p"))
      none (taken_first (are_taken (params_of r)) _ _ _ _ h))

  by_tests : (scrypt sha256 sha512 sha1 : Bool) → same_text r.algorithm (codes "scrypt") ≡ scrypt
      → same_text r.algorithm (codes "pbkdf2-sha256") ≡ sha256 → same_text r.algorithm (codes "pbkdf2-sha512") ≡ sha512
      → same_text r.algorithm (codes "pbkdf2-sha1") ≡ sha1
      → accepted r salt n ≡ true → is_record (scheme_named r.algorithm) ≡ true
  by_tests true sha256 sha512 sha1 is is' is'' is''' h = by_name (codes "scrypt") refl is
  by_tests false true sha512 sha1 is is' is'' is''' h = by_name (codes "pbkdf2-sha256") refl is'
  by_tests false false true sha1 is is' is'' is''' h = by_name (codes "pbkdf2-sha512") refl is''
  by_tests false false false true is is' is'' is''' h = by_name (codes "pbkdf2-sha1") refl is'''
  by_tests false false false false is is' is'' is''' h = argon2_named (rw (is, is', is'', is''') at h)

pub takes_records : TakesRecordsHere
takes_records r salt n h =
    by_tests r salt n (same_text r.algorithm (codes "scrypt")) (same_text r.algorithm (codes "pbkdf2-sha256"))
    (same_text r.algorithm (codes "pbkdf2-sha512")) (same_text r.algorithm (codes "pbkdf2-sha1")) refl refl refl refl h
