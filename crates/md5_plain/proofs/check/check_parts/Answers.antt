use Rattle.std.proofs.Common.{◌≡◌, ◌∙◌, sym, ap, List, ℕ, Some}
use Rattle.sha_crypt.specs.HashField.{field_bytes}
use Rattle.md5_plain.specs.Digest.{md5_crypt_digest}
use Rattle.md5_plain.specs.Views.{fields_of}
use Rattle.md5_plain.proofs.Answers.{answer_same}
use Rattle.md5_plain.proofs.check.check_parts.Goals as goal

pub returns : goal.returns
returns c =
    let found : field_bytes 16 c.args.parts.hash.now ≡ Some c.in-Some.bytes =
    sym (c.field_bytes.ensures.bytes ∙ ap (field_bytes 16) c.as_bytes.ensures.value) ∙ c.in-Some.is in
    let digest_is : c.md5_crypt-digest.result ≡ md5_crypt_digest c.args.password.now c.args.parts.salt.now c.args.magic
    =
    c.md5_crypt-digest.ensures.digest ∙ ap (λ (s : List ℕ). md5_crypt_digest c.args.password.now s c.args.magic)
    c.as_bytes-2.ensures.value in
    record {
      answer = answer_same c.args.magic c.args.password.now (fields_of c.args.parts) c.in-Some.bytes
          c.md5_crypt-digest.result c.in_order-wanted.result _
          c.if-parts-gt-SALT_MAX.false found digest_is c.in_order-wanted.ensures.value c.in_order-wanted.ensures.small
          (c.from.ensures ∙ c.ct_eq_slices.ensures);
    }
