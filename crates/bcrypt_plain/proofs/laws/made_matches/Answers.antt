use Rattle.bcrypt_plain.proofs.MadeTexts.{made_matches}
use Rattle.bcrypt_plain.proofs.laws.made_matches.Goals as goal

pub returns : goal.returns
returns c = record { matches = made_matches }
