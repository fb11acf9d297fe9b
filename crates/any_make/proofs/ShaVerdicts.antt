-- The texts of SHA-crypt are judged.
use Rattle.std.proofs.Common.{◌≡◌, ℕ, ◌≤◌, Bool, true, List, [], ◌∷◌, ◌++◌, length, refl, ap, ◌∙◌, arith, Ok}
use Rattle.std.specs.Prelude.{not, ◌==◌, Some, None}
use Rattle.std.specs.List.{list_all}
use Rattle.base64ct.specs.Encoding.{EachBelow}
use Rattle.base64ct.proofs.DecodingLaws.{same_true, true_same}
use Rattle.mcf.specs.Grammar.{Parts, field_fault, first_field_fault, is_field_byte, mcf}
use Rattle.mcf.proofs.Built.{mcf-parts_text}
use Rattle.mcf.proofs.Pushed.{good_field}
use Rattle.pieces.specs.Pieces.{pieces_at}
use Rattle.pieces.proofs.ByteTests.{is_not}
use Rattle.sha_crypt.specs.Check.{hash_matches}
use Rattle.sha_crypt.specs.Families.{Scheme, scheme_fields}
use Rattle.sha_crypt.specs.Fields.{ShaFields}
use Rattle.sha_crypt.specs.Records.{family_id, family_scheme, field_pieces, record_text, rounds_pieces}
use Rattle.sha_crypt.specs.Simple.{made_fields, made_text}
use Rattle.sha_crypt.specs.declared.errors.Family.{Family}
use Rattle.sha_crypt.specs.declared.errors.Family.TheVariants.{Sha256, Sha512}
use Rattle.sha_crypt.proofs.Digests.{hash_passes, hash_some, is_scheme, made_hash}
use Rattle.sha_crypt.proofs.MadeTexts.{IsSalt, by_default, made_read}
use Rattle.stored_check.specs.Verdict.{parts_answer, sha_answer, verdict}
use Rattle.stored_check.specs.Verdict as stored
use Rattle.stored_check.proofs.MadeTexts.{is_name, of_parts}
use Rattle.stored_check.proofs.Normals.{rounds_field}
use Rattle.stored_check.proofs.Records.{printed_is}
use Rattle.yescrypt_plain.proofs.Fields.{field_len, field_passes}
use Rattle.any_check.specs.Records.{accepted, tag}
use Rattle.any_check.specs.Table.{any_verdict, of_stored, sha_scheme, text_scheme}
use Rattle.any_check.proofs.Families.{sha_stored}
use Rattle.any_make.specs.Made.{hash_text, salt_characters}
use Rattle.any_make.specs.declared.scheme.MakeCost.TheVariants as cost
use Rattle.any_make.proofs.Judged.{IsJudged, by_row, judged}

-- ---- the characters of a salt

module _ (salt : List ℕ) (size : length salt ≡ 12) (below : EachBelow 256 salt) where
  pub salt_long : length (salt_characters salt) ≡ 16
  salt_long = field_len salt below ∙ omega (arith, size)

  salt_plain : list_all is_field_byte (salt_characters salt) ≡ true
  salt_plain = field_passes is_field_byte salt refl below

  salt_good : IsSalt (salt_characters salt)
  salt_good =
      let long = salt_long in
      record {
        short = omega (arith, long);
        dollar = field_passes (is_not 36) salt refl below;
        equals = field_passes (is_not 61) salt refl below;
      }

-- ---- the scheme

is_family : (family : Family) → stored.scheme_of (family_id family) ≡ Some (family_scheme family)
is_family Sha256 = refl
is_family Sha512 = refl

text_is : (family : Family) (f : ShaFields) → text_scheme (record_text family f) ≡ Some (sha_scheme family)
unfolding text_scheme pieces_at record_text
text_is Sha256 f = refl
text_is Sha512 f = refl

-- ---- the verdict

module _ (family : Family) (password characters : List ℕ) (n : ℕ) (least : 1000 ≤ n) (most : n ≤ 999999999)
    (good : IsSalt characters) (some : 1 ≤ length characters) (plain : list_all is_field_byte characters ≡ true) where
  abbrev s : Scheme
  s = family_scheme family

  abbrev f : ShaFields
  f = made_fields (family_scheme family) password characters n

  abbrev p : Parts
  p = record { id = family_id family; fields = field_pieces f }

  fields_good : first_field_fault (field_pieces f) ≡ None
  fields_good =
      let is = is_scheme family in
      let hash : List ℕ = made_hash s password characters n in
      let of_salt : field_fault characters ≡ None = good_field characters some plain in
      let of_hash : field_fault hash ≡ None =
      good_field hash (hash_some s is password characters n (omega (arith, least)))
      (hash_passes is_field_byte s is password characters n (omega (arith, least)) refl) in
      by_default (λ (t : Bool). first_field_fault (rounds_pieces (not t) n ++ characters ∷ (hash ∷ [])) ≡ None) n
      (λ default. rw (of_salt, of_hash) refl)
      (λ other. rw (rounds_field n (omega (arith, most)), of_salt, of_hash) refl)

  read : mcf (made_text family password characters n) ≡ Ok p
  read = ap mcf (printed_is family f) ∙ mcf-parts_text p (is_name family) fields_good

  on_text : (asked : List ℕ) → length asked ≤ 4096
      → any_verdict accepted tag asked (made_text family password characters n)
      ≡ judged (hash_matches s.hash s.places asked f)
  on_text asked fits =
      let fields : scheme_fields s (field_pieces f) ≡ Ok f =
      made_read s (is_scheme family) password characters n least most good in
      by_row asked (made_text family password characters n) (sha_scheme family) fits (text_is family f)
      ∙ sha_stored accepted tag asked (made_text family password characters n) family
      ∙ ap of_stored
      (of_parts accepted tag asked (made_text family password characters n) p fits read
      ∙ ap (λ o. parts_answer accepted tag asked o p) (is_family family) ∙ ap (sha_answer s asked) fields)

pub sha_judged : (family : Family) (password salt : List ℕ) (n : ℕ) → 1000 ≤ n → n ≤ 999999999 → length salt ≡ 12
    → EachBelow 256 salt → IsJudged (cost.ShaCrypt family n) password salt
unfolding hash_text
sha_judged family password salt n least most size below =
    let characters : List ℕ = salt_characters salt in
    let long = salt_long salt size below in
    let one : Scheme = family_scheme family in
    let made : ShaFields = made_fields (family_scheme family) password characters n in
    record {
      matches = λ asked. hash_matches one.hash one.places asked made;
      verdict = λ asked short takes.
          on_text family password characters n least most (salt_good salt size below) (omega (arith, long))
          (salt_plain salt size below) asked short;
      own = true_same made.hash;
      same = λ asked matches.
          ap (λ (h : List ℕ). record_text family (record { rounds = n; written = not (n == 5000); salt = characters; hash = h }))
          (same_true (made_hash one asked characters n) (made_hash one password characters n) matches);
    }
