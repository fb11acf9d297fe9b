use Rattle.std.proofs.Common.{arith}
use Rattle.hmac_plain.proofs.code.Hmac.new.Goals as goal

pub block_key-block-requires : goal.block_key-block-requires
block_key-block-requires g c = omega (arith, g.met.H.HashFunction.small)

pub padded_hasher-requires : goal.padded_hasher-requires
padded_hasher-requires g c = omega (arith, g.met.H.HashFunction.small)

pub padded_hasher-requires-2 : goal.padded_hasher-requires-2
padded_hasher-requires-2 g c = omega (arith, g.met.H.HashFunction.small)
