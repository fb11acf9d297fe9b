use Rattle.sha1_crypt.proofs.Answers.{one_text}
use Rattle.sha1_crypt.proofs.laws.one_text.Goals as goal

pub returns : goal.returns
returns c = record { text = one_text }
