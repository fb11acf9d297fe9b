use Rattle.scram_plain.proofs.Answers.{matches_scram_texts}
use Rattle.scram_plain.proofs.laws.matches_exactly.Goals as goal

pub returns : goal.returns
returns c = record { texts = matches_scram_texts }
