use Rattle.yescrypt_plain.proofs.ScryptTexts.{scrypt_matches_exactly}
use Rattle.yescrypt_plain.proofs.laws.scrypt_matches_exactly.Goals as goal

pub returns : goal.returns
returns c = record { texts = scrypt_matches_exactly }
