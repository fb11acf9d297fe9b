use Rattle.shadow_check.proofs.Alike.{alike}
use Rattle.shadow_check.proofs.laws.fewer_answers_alike.Goals as goal

pub returns : goal.returns
returns c = record { alike = alike }
