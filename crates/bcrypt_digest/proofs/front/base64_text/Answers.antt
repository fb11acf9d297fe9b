use Rattle.std.proofs.Common.{rules, arith}
use Rattle.base64ct.specs.Encoding.{EachBelow}
use Rattle.bcrypt_digest.proofs.FrontTexts.{never_refused}
use Rattle.bcrypt_digest.proofs.front.base64_text.Goals as goal

pub unreachable-requires : goal.unreachable-requires
unreachable-requires c =
    let small : EachBelow 256 c.args.digest.now = search rules in
    never_refused c.args.digest.now 64 small c.requires.short (omega arith) (search rules)
