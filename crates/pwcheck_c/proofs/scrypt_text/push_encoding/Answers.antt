use Rattle.std.proofs.Common.{rules, arith}
use Rattle.base64ct.specs.Encoding.{EachBelow}
use Rattle.phc.proofs.EncodedBytes.{never_refused}
use Rattle.pwcheck_c.proofs.scrypt_text.push_encoding.Goals as goal

pub unreachable-requires : goal.unreachable-requires
unreachable-requires c =
    let small : EachBelow 256 c.args.bytes.now = search rules in
    never_refused c.args.bytes.now 43 small c.requires.few (omega arith) (search rules)
