use Rattle.scram_plain.proofs.Answers.{one_text}
use Rattle.scram_plain.proofs.laws.one_text.Goals as goal

pub returns : goal.returns
returns c = record { text = one_text }
