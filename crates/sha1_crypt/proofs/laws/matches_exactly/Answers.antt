use Rattle.sha1_crypt.proofs.Answers.{matches_own_texts}
use Rattle.sha1_crypt.proofs.laws.matches_exactly.Goals as goal

pub returns : goal.returns
returns c = record { texts = matches_own_texts }
