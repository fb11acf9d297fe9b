use Rattle.phpass_plain.proofs.Answers.{exactly_own_texts}
use Rattle.phpass_plain.proofs.laws.matches_exactly.Goals as goal

pub returns : goal.returns
returns c = record { texts = exactly_own_texts }
