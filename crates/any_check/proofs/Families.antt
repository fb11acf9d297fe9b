-- What the scheme of a text says of its identifier.
use Rattle.std.proofs.Common.{◌≡◌, Bool, true, false, List, ℕ, refl, ap, ◌∙◌, sym, Option, Some, None}
use Rattle.std.specs.Prelude.{◌||◌, if◌then◌else◌, codes}
use Rattle.std.proofs.lemmas.Bool.{false≢true}
use Rattle.base64ct.proofs.DecodingLaws.{same_true}
use Rattle.scheme_list.proofs.Found.{found_holds}
use Rattle.scheme_list.specs.Schemes.{has_identifier, row_of, same, scheme_named, schemes}
use Rattle.scheme_list.specs.declared.schemes.Scheme.{Scheme}
use Rattle.scheme_list.specs.declared.schemes.Scheme.TheVariants.{Argon2d, Argon2i, Argon2id, Pbkdf2Sha256}
use Rattle.scheme_list.specs.declared.schemes.Scheme.TheVariants.{Pbkdf2Sha1, Pbkdf2Sha512, Scrypt, Sha256Crypt, Sha512Crypt}
use Rattle.phc.specs.declared.password_hash.PasswordHash.{PasswordHash}
use Rattle.sha_crypt.specs.Records.{family_id}
use Rattle.sha_crypt.specs.declared.errors.Family.{Family}
use Rattle.sha_crypt.specs.declared.errors.Family.TheVariants.{Sha256, Sha512}
use Rattle.stored_check.specs.Verdict.{named_family}
use Rattle.any_check.specs.Table.{identifier, is_record, row, scheme_answer, sha_scheme, stored_row, text_scheme}

-- the identifier is one of the scheme's
pub named : (stored : List ℕ) (scheme : Scheme) → text_scheme stored ≡ Some scheme
    → has_identifier (identifier stored) scheme ≡ true
unfolding text_scheme
named stored scheme h = found_holds (has_identifier (identifier stored)) schemes scheme h

first_of_one : (t : Bool) → t || false ≡ true → t ≡ true
first_of_one true h = refl
first_of_one false h = absurd (false≢true h)

-- a text of SHA-crypt has the identifier of its family
pub family_if_sha : (stored : List ℕ) (family : Family) → text_scheme stored ≡ Some (sha_scheme family)
    → named_family (identifier stored) ≡ Some family
family_if_sha stored Sha256 h =
    ap named_family (same_true (identifier stored) (codes "5")
    (first_of_one (same (identifier stored) (codes "5")) (named stored Sha256Crypt h)))
family_if_sha stored Sha512 h =
    ap named_family (same_true (identifier stored) (codes "6")
    (first_of_one (same (identifier stored) (codes "6")) (named stored Sha512Crypt h)))

-- and is read as one of the family
pub sha_same : (stored : List ℕ) (family : Family) → text_scheme stored ≡ Some (sha_scheme family)
    → same (identifier stored) (family_id family) ≡ true
sha_same stored Sha256 h = first_of_one (same (identifier stored) (codes "5")) (named stored Sha256Crypt h)
sha_same stored Sha512 h = first_of_one (same (identifier stored) (codes "6")) (named stored Sha512Crypt h)

by_tests : (id : List ℕ) (five six : Bool) (family : Family) → same id (codes "5") ≡ five → same id (codes "6") ≡ six
    → (if five then Some Sha256 else (if six then Some Sha512 else None)) ≡ Some family
    → scheme_named id ≡ Some (sha_scheme family)
by_tests id true six Sha256 is is' h = ap scheme_named (same_true id (codes "5") is)
by_tests id true six Sha512 is is' h = absurd cc
by_tests id false true Sha256 is is' h = absurd cc
by_tests id false true Sha512 is is' h = ap scheme_named (same_true id (codes "6") is')
by_tests id false false family is is' h = absurd cc

-- an identifier that has a family is that of its scheme
pub sha_if_family : (id : List ℕ) (family : Family) → named_family id ≡ Some family
    → scheme_named id ≡ Some (sha_scheme family)
sha_if_family id family h = by_tests id (same id (codes "5")) (same id (codes "6")) family refl refl h

sha_no_record : (family : Family) → (row_of (sha_scheme family)).is_record ≡ false
sha_no_record Sha256 = refl
sha_no_record Sha512 = refl

by_family : (id : List ℕ) (o : Option Family) → named_family id ≡ o → is_record (scheme_named id) ≡ true
    → named_family id ≡ None
by_family id None is h = is
by_family id (Some family) is h =
    absurd (false≢true (sym (sha_no_record family) ∙ sym (ap is_record (sha_if_family id family is)) ∙ h))

-- the identifier of a record has no family
pub no_family : (id : List ℕ) → is_record (scheme_named id) ≡ true → named_family id ≡ None
no_family id h = by_family id (named_family id) refl h

-- ---- texts whose check is `check_stored`

module _ (accepted : PasswordHash → List ℕ → ℕ → Bool) (tag : List ℕ → PasswordHash → List ℕ → ℕ → List ℕ)
    (password stored : List ℕ) where
  -- of SHA-crypt
  pub sha_stored : (family : Family) → row accepted tag (sha_scheme family) password stored ≡ stored_row accepted tag password stored
  sha_stored Sha256 = refl
  sha_stored Sha512 = refl

  -- records
  pub record_stored : (o : Option Scheme) → is_record o ≡ true
      → scheme_answer accepted tag o password stored ≡ stored_row accepted tag password stored
  record_stored None h = absurd (false≢true h)
  record_stored (Some Scrypt) h = refl
  record_stored (Some Pbkdf2Sha256) h = refl
  record_stored (Some Pbkdf2Sha512) h = refl
  record_stored (Some Pbkdf2Sha1) h = refl
  record_stored (Some Argon2d) h = refl
  record_stored (Some Argon2i) h = refl
  record_stored (Some Argon2id) h = refl
  record_stored (Some other) h = absurd (false≢true h)
