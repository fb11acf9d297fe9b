use Rattle.std.proofs.Common.{rules}
use Rattle.pieces.proofs.short_bytes.ShortBytes.push_decimal.Goals as goal

pub push_all-requires : goal.push_all-requires
push_all-requires c = search rules
