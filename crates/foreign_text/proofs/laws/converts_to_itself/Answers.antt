use Rattle.foreign_text.proofs.Itself.{itself}
use Rattle.foreign_text.proofs.laws.converts_to_itself.Goals as goal

pub returns : goal.returns
returns c = record { itself = itself }
