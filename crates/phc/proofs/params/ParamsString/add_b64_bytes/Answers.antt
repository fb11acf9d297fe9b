use Rattle.std.proofs.Common.{rules, arith, ◌≡◌, ◌≤◌, length}
use Rattle.base64ct.specs.Encoding.{EachBelow}
use Rattle.phc.specs.Encoded.{encoding}
use Rattle.phc.proofs.EncodedBytes.{encoded_fits}
use Rattle.phc.proofs.ValueBytes.{encoding_is_value}
use Rattle.phc.proofs.params.ParamsString.add_b64_bytes.Goals as goal

pub new_unwrap-requires : goal.new_unwrap-requires
new_unwrap-requires c =
    let small : EachBelow 256 c.args.bytes.now = search rules in
    let short : length c.args.bytes.now ≤ 48 = search rules in
    let is : c.in-Ok.text.now ≡ encoding c.args.bytes.now = search rules in
    rw is (encoding_is_value c.args.bytes.now small short)

pub returns-in-Err : goal.returns-in-Err
returns-in-Err c =
    let small : EachBelow 256 c.args.bytes.now = search rules in
    let short : length c.args.bytes.now ≤ 48 = search rules in
    absurd (encoded_fits c.args.bytes.now 64 small short (omega arith) (search rules))
