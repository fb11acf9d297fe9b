use Rattle.yescrypt_plain.proofs.ScryptTexts.{scrypt_made_matches}
use Rattle.yescrypt_plain.proofs.laws.scrypt_made_matches.Goals as goal

pub returns : goal.returns
returns c = record { matches = scrypt_made_matches }
