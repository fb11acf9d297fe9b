use Rattle.std.proofs.Common.{rules, arith, ◌≡◌, ◌≤◌, ◌∙◌, sym, ℕ, length, Some, refl}
use Rattle.std.specs.Prelude.{replicate}
use Rattle.std.proofs.lemmas.List.{length-replicate}
use Rattle.base64ct.specs.Encoding.{byte_count, decoded_len}
use Rattle.base64ct.specs.Decoding.{decoding}
use Rattle.base64ct.specs.Alphabets.{base64_bcrypt}
use Rattle.base64ct.proofs.DecodingLaws.{length-decoding, decoded_len-unpadded}
use Rattle.bcrypt_plain.proofs.Fields.{bytes_of_len}
use Rattle.bcrypt_plain.proofs.field.counted_bytes.Goals as goal

pub copy_from_slice-requires : goal.copy_from_slice-requires
copy_from_slice-requires g c =
    let text_len : length c.args.text.now ≡ c.args.len = search rules in
    let count : byte_count (length c.args.text.now) ≡ g.row.N = bytes_of_len g.row.N _ (text_len ∙ sym c.requires.len) in
    let size : length (replicate {A = ℕ} g.row.N 0) ≡ g.row.N = length-replicate g.row.N 0 in
    let whole : decoded_len base64_bcrypt c.args.text.now ≡ g.row.N =
    decoded_len-unpadded base64_bcrypt c.args.text.now refl ∙ count in
    let room : decoded_len base64_bcrypt c.args.text.now ≤ length (replicate {A = ℕ} g.row.N 0) = omega arith in
    let found : decoding base64_bcrypt c.args.text.now ≡ Some c.in-Ok.decoded.now = c.in-Ok.ensures.decoded room in
    size ∙ sym (length-decoding base64_bcrypt c.args.text.now c.in-Ok.decoded.now refl found ∙ whole)
