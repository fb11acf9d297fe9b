use Rattle.yescrypt_plain.proofs.YescryptTexts.{yescrypt_made_matches}
use Rattle.yescrypt_plain.proofs.laws.yescrypt_made_matches.Goals as goal

pub returns : goal.returns
returns c = record { matches = yescrypt_made_matches }
