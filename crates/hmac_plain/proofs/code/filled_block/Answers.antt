use Rattle.std.proofs.Common.{◌++◌, ap₂, length}
use Rattle.std.proofs.lemmas.List.{drop-replicate}
use Rattle.hmac_plain.proofs.code.filled_block.Goals as goal

pub returns : goal.returns
returns g c = ap₂ ◌++◌ c.copy_from_slice.ensures.after (drop-replicate (length c.args.text.now) g.row.B 0)
