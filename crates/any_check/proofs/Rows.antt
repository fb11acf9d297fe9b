-- The answers of SHA-crypt and of records by the row of their scheme, and the verdict by the row.
use Rattle.std.proofs.Common.{◌≡◌, ℕ, ◌<◌, ◌≤◌, Bool, true, false, List, length, refl, sym, ap, ◌∙◌, arith, Option, Some, None}
use Rattle.std.proofs.Common.{Result, Err, inl, inr}
use Rattle.std.specs.Prelude.{◌&&◌, is_ok, nat_lt}
use Rattle.std.specs.Option.{option_map}
use Rattle.std.proofs.lemmas.Bool.{false≢true}
use Rattle.std.proofs.lemmas.Bool.Decides.{nat_tests}
use Rattle.mcf.specs.Grammar.{fault, mcf, parts, Parts}
use Rattle.mcf.specs.declared.error.Error as mcf_error
use Rattle.phc.specs.declared.password_hash.PasswordHash.{PasswordHash}
use Rattle.md5_plain.specs.Verdict.{magic_of}
use Rattle.md5_plain.specs.declared.magic.Magic.{Magic}
use Rattle.scheme_list.specs.declared.schemes.Scheme.{Scheme}
use Rattle.scheme_list.specs.declared.schemes.Scheme.TheVariants.{Argon2d, Argon2i, Argon2id, Pbkdf2Sha256}
use Rattle.scheme_list.specs.declared.schemes.Scheme.TheVariants.{Pbkdf2Sha1, Pbkdf2Sha512, Scrypt}
use Rattle.sha_crypt.specs.Records.{family_scheme}
use Rattle.sha_crypt.specs.declared.errors.Family.{Family}
use Rattle.pieces.specs.Faults.{value_or_fault}
use Rattle.stored_check.proofs.Causes.{fits}
use Rattle.stored_check.specs.Verdict.{IsVerdict, may_lack_memory, mcf_name, named_family, parts_need, text_needs, verdict}
use Rattle.stored_check.specs.declared.error.StoredError.{StoredError}
use Rattle.md5_plain.specs.declared.magic.Magic.{Magic}
use Rattle.stored_check.specs.declared.error.StoredError.TheVariants.{Mcf, PasswordTooLong}
use Rattle.any_check.specs.Kinds.{md5_by_magic, md5_kind}
use Rattle.any_check.specs.declared.kinds.TextKind.TheVariants.{Invalid}
use Rattle.any_check.specs.Table.{IsAnyVerdict, any_may_lack, any_verdict, identifier, is_record, md5_answer, md5_by}
use Rattle.any_check.specs.Table.{of_stored, row, row_may_lack, sha_scheme, text_scheme}
use Rattle.any_check.specs.declared.error.AnyError.{AnyError}
use Rattle.any_check.specs.declared.error.AnyError.TheVariants.{NoScheme, Stored}
use Rattle.any_check.proofs.Families.{family_if_sha, record_stored, sha_stored}

-- ---- md5-crypt

module _ (password stored : List ℕ) where
  pub md5_bad : (e : mcf_error.Error) → fault stored ≡ Some e
      → md5_answer password (mcf stored) ≡ Err (Stored (Mcf (mcf_name e)))
  unfolding mcf
  md5_bad e bad = rw bad refl

  pub md5_read : (o : Option Magic) → fault stored ≡ None → magic_of (parts stored).id ≡ o
      → md5_answer password (mcf stored) ≡ md5_by o password (parts stored)
  unfolding mcf
  md5_read o valid is = rw valid (ap (λ (m : Option Magic). md5_by m password (parts stored)) is)

module _ (stored : List ℕ) where
  pub md5_bad_kind : (e : mcf_error.Error) → fault stored ≡ Some e → md5_kind (mcf stored) ≡ Invalid
  unfolding mcf
  md5_bad_kind e bad = rw bad refl

  pub md5_read_kind : (o : Option Magic) → fault stored ≡ None → magic_of (parts stored).id ≡ o
      → md5_kind (mcf stored) ≡ md5_by_magic o (parts stored).fields
  unfolding mcf
  md5_read_kind o valid is = rw valid (ap (λ (m : Option Magic). md5_by_magic m (parts stored).fields) is)

-- ---- memory is wanting for no text of SHA-crypt

no_need : (o : Option Family) (family : Family) (p : Parts) (needs_memory : PasswordHash → Bool) → o ≡ Some family
    → parts_need needs_memory (option_map family_scheme o) p ≡ false
no_need None family p needs_memory h = absurd cc
no_need (Some f) family p needs_memory h = refl

sha_needs : (stored : List ℕ) (o : Option mcf_error.Error) (family : Family) (needs_memory : PasswordHash → Bool)
    → named_family (identifier stored) ≡ Some family
    → text_needs needs_memory (value_or_fault (parts stored) o) ≡ false
sha_needs stored (Some e) family needs_memory h = refl
sha_needs stored None family needs_memory h =
    no_need (named_family (identifier stored)) family (parts stored) needs_memory h

and_false : (b : Bool) → b && false ≡ false
and_false true = refl
and_false false = refl

-- ---- the rows

module _ (accepted : PasswordHash → List ℕ → ℕ → Bool) (tag : List ℕ → PasswordHash → List ℕ → ℕ → List ℕ)
    (needs_memory : PasswordHash → Bool) (password stored : List ℕ) where
  -- an answer of a scheme's row
  abbrev pub OfRow : Scheme → Result Bool AnyError → Type 0
  OfRow scheme r = IsAnyVerdict (row accepted tag scheme password stored)
      (row_may_lack accepted needs_memory tag (Some scheme) password stored) r

  sha_never : (family : Family) → text_scheme stored ≡ Some (sha_scheme family)
      → may_lack_memory accepted needs_memory tag password stored ≡ false
  unfolding may_lack_memory mcf
  sha_never family is =
      rw (sha_needs stored (fault stored) family needs_memory (family_if_sha stored family is))
      (and_false (is_ok (verdict accepted tag password stored)))

  -- `5`, `6`
  pub sha_row : (family : Family) → text_scheme stored ≡ Some (sha_scheme family) → (r : Result Bool StoredError)
      → IsVerdict (verdict accepted tag password stored)
      (may_lack_memory accepted needs_memory tag password stored) r → OfRow (sha_scheme family) (of_stored r)
  sha_row family is r h = elim h [
    | inl same ↦ inl (ap of_stored same ∙ sym (sha_stored accepted tag password stored family))
    | inr lack ↦ absurd (false≢true (sym (sha_never family is) ∙ lack.1))
  ]

  record_lack : (scheme : Scheme) → is_record (Some scheme) ≡ true
      → row_may_lack accepted needs_memory tag (Some scheme) password stored
      ≡ may_lack_memory accepted needs_memory tag password stored
  record_lack Scrypt h = refl
  record_lack Pbkdf2Sha256 h = refl
  record_lack Pbkdf2Sha512 h = refl
  record_lack Pbkdf2Sha1 h = refl
  record_lack Argon2d h = refl
  record_lack Argon2i h = refl
  record_lack Argon2id h = refl
  record_lack other h = absurd (false≢true h)

  -- records
  pub record_row : (scheme : Scheme) → is_record (Some scheme) ≡ true → (r : Result Bool StoredError)
      → IsVerdict (verdict accepted tag password stored)
      (may_lack_memory accepted needs_memory tag password stored) r → OfRow scheme (of_stored r)
  record_row scheme of r h = elim h [
    | inl same ↦ inl (ap of_stored same ∙ sym (record_stored accepted tag password stored (Some scheme) of))
    | inr lack ↦ inr (ap of_stored lack.0, record_lack scheme of ∙ lack.1)
  ]

  -- ---- by the scheme of the text

  abbrev pub Whole : Result Bool AnyError → Type 0
  Whole r = IsAnyVerdict (any_verdict accepted tag password stored)
      (any_may_lack accepted needs_memory tag password stored) r

  pub too_long : 4096 < length password → Whole (Err (Stored PasswordTooLong))
  unfolding any_verdict
  too_long h = let test : nat_lt 4096 (length password) ≡ true = grind (arith, nat_tests) in inl (rw test refl)

  pub no_row : length password ≤ 4096 → text_scheme stored ≡ None → Whole (Err NoScheme)
  unfolding any_verdict
  no_row short is = inl (rw (fits password short, is) refl)

  pub whole : length password ≤ 4096 → (scheme : Scheme) → text_scheme stored ≡ Some scheme → (r : Result Bool AnyError)
      → OfRow scheme r → Whole r
  unfolding any_verdict any_may_lack
  whole short scheme is r h = rw (fits password short, is) h
