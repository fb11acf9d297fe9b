-- The law for texts of SHA-crypt.
use Rattle.std.proofs.Common.{◌≡◌, ℕ, ◌≤◌, Bool, true, false, List, ◌∷◌, ◌++◌, length, refl, sym, ap, ◌∙◌, arith}
use Rattle.std.proofs.Common.{Option, Some, None, Result, Ok}
use Rattle.std.specs.Prelude.{◌↔◌, codes, nat_lt}
use Rattle.std.proofs.lemmas.Bool.Decides.{nat_tests}
use Rattle.std.proofs.lemmas.List.{append_cancel_left}
use Rattle.mcf.specs.Grammar.{fault, mcf, parts}
use Rattle.mcf.specs.declared.error.Error as mcf_error
use Rattle.mcf.proofs.Ascii.{mcf_of_valid}
use Rattle.phc.specs.declared.password_hash.PasswordHash.{PasswordHash}
use Rattle.pieces.specs.Pieces.{pieces_at}
use Rattle.sha_crypt.specs.Check.{hash_matches, text_fields}
use Rattle.sha_crypt.specs.Digest.{sha_crypt_digest}
use Rattle.sha_crypt.specs.Families.{scheme_fields}
use Rattle.sha_crypt.specs.Fields.{ShaFields}
use Rattle.sha_crypt.specs.HashField.{hash_field}
use Rattle.sha_crypt.specs.Records.{family_id, family_scheme, record_of, record_text, rounds_part}
use Rattle.sha_crypt.specs.declared.errors.CheckError.{CheckError}
use Rattle.sha_crypt.specs.declared.errors.Family.{Family}
use Rattle.sha_crypt.specs.declared.errors.Family.TheVariants.{Sha256, Sha512}
use Rattle.sha_crypt.proofs.Spellings.{prints_back}
use Rattle.stored_check.specs.Verdict.{sha_answer, text_answer, verdict}
use Rattle.any_check.specs.Table.{any_verdict, sha_scheme, text_scheme}
use Rattle.any_check.proofs.Families.{sha_stored}
use Rattle.crypt_text.specs.Settings.{sha_setting}
use Rattle.scheme_list.specs.Schemes.{method_of}
use Rattle.crypt_text.specs.Texts.{crypt_text, if_setting, method_text, sha_text}
use Rattle.crypt_law.proofs.Answers.{IsTold, as_any, as_stored, stored_ok, told_of}
use Rattle.crypt_law.proofs.Clean.{mcf_of_fault, valid_clean}
use Rattle.crypt_law.proofs.Prefixes.{crypt_is, law_by, row_is}
use Rattle.crypt_law.proofs.ShaReadings.{sha_read}

-- `$5$` or `$6$`, and the rest
abbrev pub whole : Family → List ℕ → List ℕ
whole Sha256 rest = 36 ∷ (53 ∷ (36 ∷ rest))
whole Sha512 rest = 36 ∷ (54 ∷ (36 ∷ rest))

pub scheme_is : (family : Family) (rest : List ℕ) → text_scheme (whole family rest) ≡ Some (sha_scheme family)
unfolding text_scheme pieces_at
scheme_is Sha256 rest = refl
scheme_is Sha512 rest = refl

record_is : (family : Family) (rest : List ℕ)
    → record_of family (whole family rest) ≡ scheme_fields (family_scheme family) (pieces_at 36 rest)
unfolding text_fields pieces_at
record_is Sha256 rest = refl
record_is Sha512 rest = refl

method_is : (family : Family) (phrase rest : List ℕ)
    → method_text (method_of (whole family rest)) phrase (whole family rest)
    ≡ if_setting (sha_text family phrase) (sha_setting rest)
method_is Sha256 phrase rest = refl
method_is Sha512 phrase rest = refl

-- ---- the verdict

abbrev sha_matches : Family → List ℕ → ShaFields → Bool
sha_matches family phrase = hash_matches (family_scheme family).hash (family_scheme family).places phrase

-- the fields behind the identifier, and whether the hash matches
pub record HasFields (family : Family) (phrase rest : List ℕ) (b : Bool) : Type 0 where
  pub fields : IsTold (scheme_fields (family_scheme family) (pieces_at 36 rest)) (sha_matches family phrase) b
  pub valid : fault (whole family rest) ≡ None

bool_same : (a b : Bool) → as_stored a ≡ as_stored b → a ≡ b
bool_same a b h = cc

fields_told : (family : Family) (phrase : List ℕ) (r : Result ShaFields CheckError) (b : Bool)
    → sha_answer (family_scheme family) phrase r ≡ as_stored b → IsTold r (sha_matches family phrase) b
fields_told family phrase r b h =
    told_of (sha_answer (family_scheme family) phrase) as_stored (sha_matches family phrase) (λ e c none. cc)
    (λ f c told. bool_same (sha_matches family phrase f) c told) r b h

module _ (accepted : PasswordHash → List ℕ → ℕ → Bool) (tag : List ℕ → PasswordHash → List ℕ → ℕ → List ℕ) where
  parts_is : (family : Family) (phrase rest : List ℕ)
      → text_answer accepted tag phrase (Ok (parts (whole family rest)))
      ≡ sha_answer (family_scheme family) phrase (scheme_fields (family_scheme family) (pieces_at 36 rest))
  unfolding pieces_at
  parts_is Sha256 phrase rest = refl
  parts_is Sha512 phrase rest = refl

  mcf_is : (family : Family) (phrase rest : List ℕ) → fault (whole family rest) ≡ None
      → text_answer accepted tag phrase (mcf (whole family rest))
      ≡ sha_answer (family_scheme family) phrase (scheme_fields (family_scheme family) (pieces_at 36 rest))
  mcf_is family phrase rest valid =
      ap (text_answer accepted tag phrase) (mcf_of_valid (whole family rest) valid) ∙ parts_is family phrase rest

  mcf_fault : (family : Family) (phrase rest : List ℕ) (e : mcf_error.Error) (b : Bool)
      → fault (whole family rest) ≡ Some e → text_answer accepted tag phrase (mcf (whole family rest)) ≡ as_stored b → ⊥
  mcf_fault family phrase rest e b is h =
      let none = sym (ap (text_answer accepted tag phrase) (mcf_of_fault (whole family rest) e is)) ∙ h in cc

  by_fault : (family : Family) (phrase rest : List ℕ) (o : Option mcf_error.Error) (b : Bool)
      → fault (whole family rest) ≡ o
      → text_answer accepted tag phrase (mcf (whole family rest)) ≡ as_stored b → HasFields family phrase rest b
  by_fault family phrase rest (Some e) b is h = absurd (mcf_fault family phrase rest e b is h)
  by_fault family phrase rest None b is h =
      record {
        fields =
            fields_told family phrase (scheme_fields (family_scheme family) (pieces_at 36 rest)) b
            (sym (mcf_is family phrase rest is) ∙ h);
        valid = is;
      }

  answer_is : (phrase text : List ℕ) → length phrase ≤ 511
      → verdict accepted tag phrase text ≡ text_answer accepted tag phrase (mcf text)
  unfolding verdict
  answer_is phrase text short =
      let fits : nat_lt 4096 (length phrase) ≡ false = grind (arith, nat_tests, short) in
      rw fits refl

  pub fields_of : (family : Family) (phrase rest : List ℕ) (b : Bool) → length phrase ≤ 511
      → any_verdict accepted tag phrase (whole family rest) ≡ as_any b → HasFields family phrase rest b
  fields_of family phrase rest b short h =
      let stored : verdict accepted tag phrase (whole family rest) ≡ as_stored b =
      stored_ok (verdict accepted tag phrase (whole family rest)) b
      (sym (sha_stored accepted tag phrase (whole family rest) family)
      ∙ sym (row_is accepted tag phrase (whole family rest) (sha_scheme family) short (scheme_is family rest)) ∙ h) in
      by_fault family phrase rest (fault (whole family rest)) b refl
      (sym (answer_is phrase (whole family rest) short) ∙ stored)

  -- ---- the text

  abbrev with_hash : ShaFields → List ℕ → ShaFields
  with_hash f hash = record { rounds = f.rounds; written = f.written; salt = f.salt; hash = hash }

  abbrev front : Family → ShaFields → List ℕ
  front family f =
      codes "$" ++ family_id family ++ codes "$" ++ rounds_part f.written f.rounds ++ f.salt ++ codes "$"

  text_by : (family : Family) (f : ShaFields) (hash : List ℕ) → record_text family (with_hash f hash) ≡ front family f ++ hash
  unfolding record_text
  text_by family f hash = refl

  abbrev key : Family → List ℕ → ShaFields → List ℕ
  key family phrase f =
      hash_field (family_scheme family).places (sha_crypt_digest (family_scheme family).hash phrase f.salt f.rounds)

  crypt_by : (family : Family) (phrase rest : List ℕ) (f : ShaFields) → length phrase ≤ 511
      → fault (whole family rest) ≡ None → scheme_fields (family_scheme family) (pieces_at 36 rest) ≡ Ok f
      → crypt_text phrase (whole family rest) ≡ Ok (front family f ++ key family phrase f)
  crypt_by family phrase rest f short valid are =
      crypt_is phrase (whole family rest) short (valid_clean (whole family rest) valid)
      ∙ method_is family phrase rest
      ∙ ap (if_setting (sha_text family phrase)) (sha_read (family_scheme family) rest f are)
      ∙ ap Ok (text_by family f (key family phrase f))

  whole_by : (family : Family) (rest : List ℕ) (f : ShaFields)
      → scheme_fields (family_scheme family) (pieces_at 36 rest) ≡ Ok f → front family f ++ f.hash ≡ whole family rest
  whole_by family rest f are =
      sym (text_by family f f.hash) ∙ prints_back family (whole family rest) f (record_is family rest ∙ are)

  pub sha_law : (family : Family) (phrase rest : List ℕ) (b : Bool) → length phrase ≤ 511
      → any_verdict accepted tag phrase (whole family rest) ≡ as_any b
      → (crypt_text phrase (whole family rest) ≡ Ok (whole family rest)) ↔ (b ≡ true)
  sha_law family phrase rest b short h =
      let found = fields_of family phrase rest b short h in
      let f = found.fields.means in
      law_by phrase (whole family rest) (λ (t : List ℕ). front family f ++ t) (key family phrase f) f.hash b
      (crypt_by family phrase rest f short found.valid found.fields.are) (sym (whole_by family rest f found.fields.are))
      (append_cancel_left (front family f) (key family phrase f) f.hash) found.fields.told
