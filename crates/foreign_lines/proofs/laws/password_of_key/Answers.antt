use Rattle.foreign_lines.proofs.Verdicts.{of_key}
use Rattle.foreign_lines.proofs.laws.password_of_key.Goals as goal

pub returns : goal.returns
returns c = record {
  key = λ hash password rounds salt key held least most fits. of_key hash rounds salt key held password least most fits;
}
