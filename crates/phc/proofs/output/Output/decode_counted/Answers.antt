use Rattle.std.proofs.Common.{rules, arith, ◌≡◌, ◌≤◌, Some, length}
use Rattle.base64ct.specs.Alphabets.{base64_unpadded}
use Rattle.base64ct.specs.Counts.{comparison_count}
use Rattle.base64ct.specs.Encoding.{decoded_len}
use Rattle.phc.specs.Encoded.{decoding}
use Rattle.phc.proofs.EncodedBytes.{room_enough, decoded_length, compared}
use Rattle.phc.proofs.output.Output.decode_counted.Goals as goal

pub from_slice-requires : goal.from_slice-requires
from_slice-requires c =
    let short : length c.as_bytes.result.now ≤ 86 = search rules in
    let room : decoded_len base64_unpadded c.as_bytes.result.now ≤ 64 =
    room_enough 86 64 c.as_bytes.result.now short (omega arith) in
    let found : decoding c.as_bytes.result.now ≡ Some c.in-Ok.bytes.now = c.in-Ok.ensures.decoded room in
    (omega arith, omega (arith, decoded_length c.as_bytes.result.now c.in-Ok.bytes.now found, short))

pub returns-else-bytes-lt-MIN_LENGTH-clause-sames : goal.returns-else-bytes-lt-MIN_LENGTH-clause-sames
returns-else-bytes-lt-MIN_LENGTH-clause-sames c =
    let short : length c.as_bytes.result.now ≤ 86 = search rules in
    let room : decoded_len base64_unpadded c.as_bytes.result.now ≤ 64 =
    room_enough 86 64 c.as_bytes.result.now short (omega arith) in
    let found : decoding c.as_bytes.result.now ≡ Some c.in-Ok.bytes.now = c.in-Ok.ensures.decoded room in
    let some : 10 ≤ length c.in-Ok.bytes.now = search rules in
    let four : comparison_count base64_unpadded c.as_bytes.result.now 64 ≡ 4 =
    compared c.as_bytes.result.now 64
    (omega (arith, decoded_length c.as_bytes.result.now c.in-Ok.bytes.now found, some)) room in
    rw four at c.decode.ensures.sames
