use Rattle.std.proofs.Common.{rules}
use Rattle.bcrypt_digest.specs.Check.{salt_of}
use Rattle.bcrypt_digest.proofs.MadeTexts.{front_utf8}
use Rattle.bcrypt_digest.proofs.check.under_answer.Goals as goal

pub unreachable-requires : goal.unreachable-requires
unreachable-requires c =
    let text = front_utf8 c.args.parts.front (salt_of c.args.parts.under) c.args.password.now in
    search rules
