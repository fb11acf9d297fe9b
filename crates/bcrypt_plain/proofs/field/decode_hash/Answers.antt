use Rattle.std.proofs.Common.{arith, refl}
use Rattle.bcrypt_plain.proofs.Fields.{answer_found}
use Rattle.bcrypt_plain.proofs.field.decode_hash.Goals as goal

pub returns : goal.returns
returns c = record {
  found = answer_found 31 23 c.args.source.now c.counted_bytes.result refl (λ k e. omega (arith, e))
      c.counted_bytes.ensures.bytes;
}
