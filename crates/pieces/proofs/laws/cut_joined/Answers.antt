use Rattle.pieces.proofs.Cuts.{cut_joined}
use Rattle.pieces.proofs.laws.cut_joined.Goals as goal

pub returns : goal.returns
returns c = record { pieces = cut_joined }
