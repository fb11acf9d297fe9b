use Rattle.std.proofs.Common.{ap}
use Rattle.scrypt_plain.specs.Bytes.{bytes}
use Rattle.scrypt_plain.specs.Layout.{block_bytes}
use Rattle.scrypt_plain.proofs.salsa.from_table_order.Goals as goal

pub returns : goal.returns
unfolding block_bytes
returns c = ap bytes c.copy_from_slice.ensures.after
