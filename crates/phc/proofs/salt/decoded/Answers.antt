use Rattle.std.proofs.Common.{rules, arith, ◌≡◌, Some}
use Rattle.phc.specs.Encoded.{decoding}
use Rattle.phc.proofs.EncodedBytes.{salt_of_text}
use Rattle.phc.proofs.salt.decoded.Goals as goal

pub from_slice-requires : goal.from_slice-requires
from_slice-requires c =
    let found : decoding c.args.text.now ≡ Some c.in-Ok.bytes.now = search rules in
    (omega arith, (salt_of_text c.args.text.now c.in-Ok.bytes.now c.requires found).1)
