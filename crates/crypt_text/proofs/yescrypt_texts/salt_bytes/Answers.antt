use Rattle.std.proofs.Common.{rules, arith, ◌≡◌, ◌≤◌, length, Some, refl}
use Rattle.base64ct.specs.Alphabets.{base64_sha_crypt}
use Rattle.base64ct.specs.Decoding.{decoding}
use Rattle.base64ct.specs.Encoding.{byte_count, decoded_len}
use Rattle.base64ct.proofs.DecodingLaws.{decoded_len-unpadded, length-decoding}
use Rattle.crypt_text.proofs.yescrypt_texts.salt_bytes.Goals as goal

pub from_slice-requires : goal.from_slice-requires
from_slice-requires c =
    let short : length c.args.text.now ≤ 86 = search rules in
    let bytes : decoded_len base64_sha_crypt c.args.text.now ≡ byte_count (length c.args.text.now) =
    decoded_len-unpadded base64_sha_crypt c.args.text.now refl in
    let room : decoded_len base64_sha_crypt c.args.text.now ≤ 64 = omega (arith, bytes, short) in
    let found : decoding base64_sha_crypt c.args.text.now ≡ Some c.in-Ok.salt.now = c.in-Ok.ensures.decoded room in
    let len = length-decoding base64_sha_crypt c.args.text.now c.in-Ok.salt.now refl found in
    omega (arith, len, room)
