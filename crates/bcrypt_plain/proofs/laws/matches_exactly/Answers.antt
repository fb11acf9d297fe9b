use Rattle.bcrypt_plain.proofs.ReadTexts.{matches_exactly}
use Rattle.bcrypt_plain.proofs.laws.matches_exactly.Goals as goal

pub returns : goal.returns
returns c = record { texts = matches_exactly }
