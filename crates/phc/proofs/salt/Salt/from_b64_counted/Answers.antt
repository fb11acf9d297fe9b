use Rattle.std.proofs.Common.{rules, arith, ◌≡◌, ◌≤◌, Some, length}
use Rattle.base64ct.specs.Alphabets.{base64_unpadded}
use Rattle.base64ct.specs.Encoding.{decoded_len, byte_count}
use Rattle.phc.specs.Encoded.{decoding}
use Rattle.phc.proofs.EncodedBytes.{room_enough, decoded_length}
use Rattle.phc.proofs.salt.Salt.from_b64_counted.Goals as goal

pub from_slice-requires : goal.from_slice-requires
from_slice-requires c =
    let short : length c.as_bytes.result.now ≤ 64 = search rules in
    let room : decoded_len base64_unpadded c.as_bytes.result.now ≤ 48 =
    room_enough 64 48 c.as_bytes.result.now short (omega arith) in
    let found : decoding c.as_bytes.result.now ≡ Some c.in-Ok.bytes.now = c.in-Ok.ensures.decoded room in
    (omega arith, omega (arith, decoded_length c.as_bytes.result.now c.in-Ok.bytes.now found, short))

pub invariant_of-result : goal.invariant_of-result
invariant_of-result c =
    let short : length c.as_bytes.result.now ≤ 64 = search rules in
    let long : 11 ≤ length c.as_bytes.result.now = search rules in
    let room : decoded_len base64_unpadded c.as_bytes.result.now ≤ 48 =
    room_enough 64 48 c.as_bytes.result.now short (omega arith) in
    let found : decoding c.as_bytes.result.now ≡ Some c.in-Ok.bytes.now = c.in-Ok.ensures.decoded room in
    let size : length c.in-Ok.bytes.now ≡ byte_count (length c.as_bytes.result.now) =
    decoded_length c.as_bytes.result.now c.in-Ok.bytes.now found in
    let same : length c.from_slice.result ≡ length c.in-Ok.bytes.now = search rules in
    (omega (arith, size, long, same), omega (arith, size, short, same))
