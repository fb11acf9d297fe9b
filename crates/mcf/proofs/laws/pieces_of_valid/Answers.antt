use Rattle.mcf.proofs.ValidTexts.{pieces_of_valid}
use Rattle.mcf.proofs.laws.pieces_of_valid.Goals as goal

pub returns : goal.returns
returns c = record { pieces = pieces_of_valid }
