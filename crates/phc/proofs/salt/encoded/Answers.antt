use Rattle.std.proofs.Common.{rules, arith, ◌≡◌}
use Rattle.base64ct.specs.Encoding.{EachBelow}
use Rattle.phc.specs.Encoded.{encoding}
use Rattle.phc.proofs.EncodedBytes.{encoded_fits, salt_text}
use Rattle.phc.proofs.salt.encoded.Goals as goal

pub returns-in-Err : goal.returns-in-Err
returns-in-Err c =
    let small : EachBelow 256 c.args.bytes.now = search rules in
    absurd (encoded_fits c.args.bytes.now 64 small c.requires.most (omega arith) (search rules))

pub returns-in-Ok-clause-valid : goal.returns-in-Ok-clause-valid
returns-in-Ok-clause-valid c =
    let small : EachBelow 256 c.args.bytes.now = search rules in
    let is : c.from_slice.result ≡ encoding c.args.bytes.now = search rules in
    rw is (salt_text c.args.bytes.now small c.requires.least c.requires.most)
