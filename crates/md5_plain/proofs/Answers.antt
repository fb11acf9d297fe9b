-- The digest's bytes are compared in place of its hash field.
use Rattle.std.proofs.Common.{◌≡◌, ℕ, ◌≤◌, Bool, false, List, length, refl, ap, ◌∙◌, arith, Ok}
use Rattle.std.specs.Prelude.{nat_lt, nat_eq, Some}
use Rattle.std.specs.Cmp.Lexicographic.{pointwise}
use Rattle.std.proofs.lemmas.Bool.Decides.{nat_tests}
use Rattle.base64ct.specs.Alphabets.{base64_sha_crypt}
use Rattle.base64ct.specs.Decoding.{decoding}
use Rattle.base64ct.specs.Encoding.{EachBelow}
use Rattle.sha_crypt.specs.HashField.{field_bytes, in_order}
use Rattle.sha_crypt.proofs.HashFields.{decoded_of, same_hash}
use Rattle.md5_plain.specs.Digest.{md5_crypt_digest}
use Rattle.md5_plain.specs.Field.{map_md5, md5_field}
use Rattle.md5_plain.specs.Verdict.{Md5Fields, checked_fields, fields_verdict}
use Rattle.md5_plain.specs.declared.magic.Magic.{Magic}

pub answer_same : (magic : Magic) (password : List ℕ) (f : Md5Fields) (bytes digest wanted : List ℕ) (r : Bool)
    → length f.salt ≤ 8 → field_bytes 16 f.hash ≡ Some bytes → digest ≡ md5_crypt_digest password f.salt magic
    → wanted ≡ in_order map_md5 digest → EachBelow 256 wanted → r ≡ pointwise nat_eq wanted bytes
    → Ok r ≡ fields_verdict magic password (checked_fields (Ok f))
answer_same magic password f bytes digest wanted r short found digest_is wanted_is small r_is =
    let fits : nat_lt 8 (length f.salt) ≡ false = grind (arith, nat_tests, short) in
    let same : pointwise nat_eq (in_order map_md5 digest) bytes ≡ pointwise nat_eq (md5_field digest) f.hash =
    same_hash map_md5 digest bytes f.hash (rw wanted_is at small)
    (decoded_of 16 bytes (decoding base64_sha_crypt f.hash) found) in
    let test : r ≡ pointwise nat_eq (md5_field digest) f.hash =
    r_is ∙ ap (λ (x : List ℕ). pointwise nat_eq x bytes) wanted_is ∙ same in
    rw (fits, found, ← digest_is, ← test) refl
