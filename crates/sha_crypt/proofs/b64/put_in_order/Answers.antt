use Rattle.std.proofs.Common.{arith}
use Rattle.sha_crypt.proofs.HashFields.{ordered}
use Rattle.sha_crypt.proofs.b64.put_in_order.Goals as goal

pub returns-clause-value : goal.returns-clause-value
returns-clause-value c =
    ordered c.args.places.now c.args.digest.now c.places.bytes c.places.k (omega arith) (omega arith) c.places.invariant
