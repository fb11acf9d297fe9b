use Rattle.bcrypt_digest.proofs.Answers.{matches_exactly}
use Rattle.bcrypt_digest.proofs.laws.matches_exactly.Goals as goal

pub returns : goal.returns
returns c = record { texts = matches_exactly }
