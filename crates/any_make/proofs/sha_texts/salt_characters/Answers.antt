use Rattle.std.proofs.Common.{rules, arith}
use Rattle.std.specs.Prelude.{replicate}
use Rattle.base64ct.specs.Encoding.{EachBelow}
use Rattle.yescrypt_plain.proofs.Fields.{encoded}
use Rattle.any_make.proofs.sha_texts.salt_characters.Goals as goal

pub returns : goal.returns
returns c =
    let small : EachBelow 256 c.args.salt.now = search rules in
    encoded c.args.salt.now (replicate 16 0) c.encode_into.new.dst c.encode_into.result small (omega (arith, c.requires))
    (omega (arith, c.requires)) c.encode_into.ensures.refused c.encode_into.ensures.written
