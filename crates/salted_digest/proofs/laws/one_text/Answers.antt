use Rattle.salted_digest.proofs.Answers.{one_text}
use Rattle.salted_digest.proofs.laws.one_text.Goals as goal

pub returns : goal.returns
returns c = record { text = one_text }
