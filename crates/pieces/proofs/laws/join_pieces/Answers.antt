use Rattle.pieces.proofs.Cuts.{join_pieces}
use Rattle.pieces.proofs.laws.join_pieces.Goals as goal

pub returns : goal.returns
returns c = record { text = join_pieces }
