use Rattle.pieces.proofs.Ascii.{low_from_mask}
use Rattle.pieces.proofs.text.is_ascii_from.Goals as goal

pub returns : goal.returns
returns c = record { ascii = λ none. low_from_mask c.args.bytes.now c.args.i c.requires.room none }
