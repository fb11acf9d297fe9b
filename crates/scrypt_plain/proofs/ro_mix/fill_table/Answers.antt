use Rattle.std.proofs.Common.{◌*◌}
use Rattle.scrypt_plain.specs.Layout.{row_bytes}
use Rattle.word_lists.specs.Lists.{piece}
use Rattle.scrypt_plain.proofs.Table.{filled_none, filled_more}
use Rattle.scrypt_plain.proofs.ro_mix.fill_table.Goals as goal

pub rows-init : goal.rows-init
rows-init c = filled_none c.args.r c.args.table.now

pub rows-preserved : goal.rows-preserved
rows-preserved c =
    filled_more c.args.r c.rows.i c.rows.table c.next_row.new.table
    (row_bytes (2 * c.args.r) (piece (32 * c.args.r) c.args.table.now 0))
    c.rows.invariant c.next_row.ensures.next c.next_row.ensures.others
