use Rattle.phpass_plain.proofs.Answers.{text_once}
use Rattle.phpass_plain.proofs.laws.one_text.Goals as goal

pub returns : goal.returns
returns c = record { text = text_once }
