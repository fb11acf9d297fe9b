use Rattle.mcf.proofs.Ascii.{valid_ascii}
use Rattle.mcf.proofs.laws.valid_is_ascii.Goals as goal

pub returns : goal.returns
returns c = record { ascii = valid_ascii }
