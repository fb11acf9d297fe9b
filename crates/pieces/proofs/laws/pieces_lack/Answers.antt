use Rattle.pieces.proofs.Cuts.{pieces_lack}
use Rattle.pieces.proofs.laws.pieces_lack.Goals as goal

pub returns : goal.returns
returns c = record { pieces = pieces_lack }
