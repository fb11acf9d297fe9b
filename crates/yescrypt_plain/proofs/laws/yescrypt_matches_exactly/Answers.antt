use Rattle.yescrypt_plain.proofs.YescryptTexts.{yescrypt_matches_exactly}
use Rattle.yescrypt_plain.proofs.laws.yescrypt_matches_exactly.Goals as goal

pub returns : goal.returns
returns c = record { texts = yescrypt_matches_exactly }
