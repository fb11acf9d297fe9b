use Rattle.salted_digest.proofs.Answers.{matches_digest_texts}
use Rattle.salted_digest.proofs.laws.matches_exactly.Goals as goal

pub returns : goal.returns
returns c = record { texts = matches_digest_texts }
