use Rattle.std.proofs.Common.{ap, ◌∙◌}
use Rattle.scrypt_plain.specs.Layout.{block_bytes}
use Rattle.scrypt_plain.proofs.Table.{block_bytes-table_order}
use Rattle.scrypt_plain.proofs.salsa.to_table_order.Goals as goal

pub returns : goal.returns
returns c = ap block_bytes c.copy_from_slice.ensures.after ∙ block_bytes-table_order c.args.from.now c.requires.from
