use Rattle.pieces.proofs.Cuts.{cut_append}
use Rattle.pieces.proofs.laws.cut_append.Goals as goal

pub returns : goal.returns
returns c = record { pieces = cut_append }
