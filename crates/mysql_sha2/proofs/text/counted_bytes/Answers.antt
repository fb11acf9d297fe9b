use Rattle.std.proofs.Common.{arith, ◌≡◌, ◌≤◌, ◌∙◌, sym, ap, ℕ, length, Some, refl}
use Rattle.std.specs.Prelude.{replicate}
use Rattle.std.proofs.lemmas.List.{length-replicate}
use Rattle.base64ct.specs.Encoding.{byte_count, decoded_len}
use Rattle.base64ct.specs.Decoding.{decoding}
use Rattle.base64ct.specs.Alphabets.{base64_sha_crypt}
use Rattle.base64ct.proofs.DecodingLaws.{length-decoding, decoded_len-unpadded}
use Rattle.mysql_sha2.proofs.text.counted_bytes.Goals as goal

pub copy_from_slice-requires : goal.copy_from_slice-requires
copy_from_slice-requires c =
    let whole : decoded_len base64_sha_crypt c.args.text.now ≡ 32 =
    decoded_len-unpadded base64_sha_crypt c.args.text.now refl ∙ ap byte_count c.requires.len in
    let size : length (replicate {A = ℕ} 32 0) ≡ 32 = length-replicate {A = ℕ} 32 0 in
    let room : decoded_len base64_sha_crypt c.args.text.now ≤ length (replicate {A = ℕ} 32 0) = omega (arith, whole, size) in
    let found : decoding base64_sha_crypt c.args.text.now ≡ Some c.in-Ok.decoded.now = c.in-Ok.ensures.decoded room in
    size ∙ sym (length-decoding base64_sha_crypt c.args.text.now c.in-Ok.decoded.now refl found ∙ whole)
