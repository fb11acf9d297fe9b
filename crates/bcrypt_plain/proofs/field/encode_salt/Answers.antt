use Rattle.std.proofs.Common.{arith}
use Rattle.std.specs.Prelude.{replicate}
use Rattle.bcrypt_plain.proofs.Fields.{encoded}
use Rattle.bcrypt_plain.proofs.field.encode_salt.Goals as goal

pub returns : goal.returns
returns c = record {
  field = encoded c.args.salt.now (replicate 22 0) c.encode_into.new.dst c.encode_into.result c.fits-salt
      (omega arith) (omega arith) c.encode_into.ensures.refused c.encode_into.ensures.written;
}
