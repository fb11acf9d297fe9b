-- The verdict on a record that is printed.
use Rattle.std.proofs.Common.{◌≡◌, ℕ, ◌≤◌, true, List, length, refl, sym, ap, ◌∙◌, Option, Some, None, Ok}
use Rattle.base64ct.specs.Encoding.{EachBelow}
use Rattle.base64ct.proofs.DecodingLaws.{decoding-encoding, same_true}
use Rattle.base64ct.specs.Alphabets.{base64_unpadded}
use Rattle.std.proofs.lemmas.Option.{same_Some}
use Rattle.mcf.specs.Grammar.{Parts, first_field_fault, is_identifier, mcf, parts_text}
use Rattle.mcf.proofs.Built.{mcf-parts_text}
use Rattle.phc.specs.Encoded.{decoding, encoding}
use Rattle.phc.specs.Record.{IsRecord, is_printable, phc, record_text}
use Rattle.phc.specs.declared.password_hash.PasswordHash.{PasswordHash}
use Rattle.phc_kdf.proofs.RecordFields.{read_phc}
use Rattle.phc.proofs.ParsedBack.{parses_back}
use Rattle.stored_check.specs.Verdict.{key_answer, parts_answer, phc_answer, same_text, scheme_of, verdict}
use Rattle.stored_check.proofs.MadeTexts.{of_parts}
use Rattle.any_check.specs.Records.{accepted, tag}
use Rattle.any_check.specs.Table.{any_verdict, is_record, of_stored, text_scheme}
use Rattle.any_make.proofs.Judged.{by_record, judged}

-- two keys with one encoding are one
pub key_once : (x y : List ℕ) → EachBelow 256 x → EachBelow 256 y → same_text (encoding x) (encoding y) ≡ true → y ≡ x
key_once x y hx hy same =
    let texts : encoding x ≡ encoding y = same_true (encoding x) (encoding y) same in
    sym (same_Some x y
    (sym (decoding-encoding base64_unpadded x refl hx) ∙ ap decoding texts ∙ decoding-encoding base64_unpadded y refl hy))

-- what a record and its parts are known by
pub record IsPrinted (r : PasswordHash) (p : Parts) : Type 0 where
  pub valid : IsRecord r
  pub printable : is_printable r ≡ true
  pub printed : parts_text p ≡ record_text r
  pub name : is_identifier p.id ≡ true
  pub other : scheme_of p.id ≡ None
  pub fields : first_field_fault p.fields ≡ None
  pub scheme : is_record (text_scheme (record_text r)) ≡ true

module _ (r : PasswordHash) (p : Parts) (is : IsPrinted r p) where
  read : mcf (record_text r) ≡ Ok p
  read = ap mcf (sym is.printed) ∙ mcf-parts_text p is.name is.fields

  parsed : phc p.id p.fields ≡ Ok r
  parsed = sym (read_phc (record_text r) p read) ∙ parses_back r is.valid is.printable

  of_record : (asked : List ℕ) → length asked ≤ 4096
      → verdict accepted tag asked (record_text r) ≡ key_answer accepted tag asked r r.salt r.hash
  of_record asked fits =
      of_parts accepted tag asked (record_text r) p fits read
      ∙ ap (λ o. parts_answer accepted tag asked o p) is.other
      ∙ ap (phc_answer accepted tag asked) parsed

  -- by the key that the password has for the record, where its salt, its key, and what is taken are known
  pub on_record : (asked salt hash key : List ℕ) → length asked ≤ 4096 → r.salt ≡ Some salt → r.hash ≡ Some hash
      → length hash ≡ 32 → accepted r salt 32 ≡ true → tag asked r salt 32 ≡ key
      → any_verdict accepted tag asked (record_text r) ≡ judged (same_text (encoding hash) (encoding key))
  on_record asked salt hash key fits salt_is hash_is size takes tags =
      by_record asked (record_text r) fits is.scheme
      ∙ ap of_stored (of_record asked fits)
      ∙ ap (λ (s : Option (List ℕ)). of_stored (key_answer accepted tag asked r s r.hash)) salt_is
      ∙ ap (λ (h : Option (List ℕ)). of_stored (key_answer accepted tag asked r (Some salt) h)) hash_is
      ∙ rw size (rw takes
      (ap (λ (t : List ℕ). judged (same_text (encoding hash) (encoding t))) tags))
