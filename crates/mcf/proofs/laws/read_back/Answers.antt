use Rattle.mcf.proofs.Built.{mcf-parts_text}
use Rattle.mcf.proofs.laws.read_back.Goals as goal

pub returns : goal.returns
returns c = record { parts = mcf-parts_text }
