use Rattle.std.proofs.Common.{rules, arith, ◌≡◌, ◌≤◌, ◌∙◌, sym, ap, length, Some, refl}
use Rattle.base64ct.specs.Alphabets.{base64_sha_crypt}
use Rattle.base64ct.specs.Decoding.{decoding}
use Rattle.base64ct.specs.Encoding.{byte_count, decoded_len}
use Rattle.base64ct.proofs.DecodingLaws.{decoded_len-unpadded, length-decoding}
use Rattle.yescrypt_plain.proofs.field.hash_bytes.Goals as goal

pub copy_from_slice-requires : goal.copy_from_slice-requires
copy_from_slice-requires c =
    let text_len : length c.args.text.now ≡ 43 = search rules in
    let whole : decoded_len base64_sha_crypt c.args.text.now ≡ 32 =
    decoded_len-unpadded base64_sha_crypt c.args.text.now refl ∙ ap byte_count text_len in
    let room : decoded_len base64_sha_crypt c.args.text.now ≤ 32 = omega (arith, whole) in
    let found : decoding base64_sha_crypt c.args.text.now ≡ Some c.in-Ok.decoded.now = c.in-Ok.ensures.decoded room in
    sym (length-decoding base64_sha_crypt c.args.text.now c.in-Ok.decoded.now refl found ∙ whole)
