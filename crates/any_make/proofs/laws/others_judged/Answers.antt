use Rattle.any_make.proofs.Matches.{others_judged}
use Rattle.any_make.proofs.laws.others_judged.Goals as goal

pub returns : goal.returns
returns c = record { judged = others_judged }
