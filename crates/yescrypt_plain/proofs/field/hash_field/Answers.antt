use Rattle.std.proofs.Common.{arith}
use Rattle.std.specs.Prelude.{replicate}
use Rattle.yescrypt_plain.proofs.Fields.{encoded}
use Rattle.yescrypt_plain.proofs.field.hash_field.Goals as goal

pub returns : goal.returns
returns c =
    encoded c.args.hash.now (replicate 43 0) c.encode_into.new.dst c.encode_into.result c.fits-hash (omega arith)
    (omega arith) c.encode_into.ensures.refused c.encode_into.ensures.written
