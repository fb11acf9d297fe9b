use Rattle.mcf.proofs.ValidTexts.{parts_text-mcf}
use Rattle.mcf.proofs.laws.written_back.Goals as goal

pub returns : goal.returns
returns c = record { text = parts_text-mcf }
