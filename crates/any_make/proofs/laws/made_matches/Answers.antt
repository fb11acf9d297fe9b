use Rattle.any_make.proofs.Matches.{made_matches}
use Rattle.any_make.proofs.laws.made_matches.Goals as goal

pub returns : goal.returns
returns c = record { matches = made_matches }
