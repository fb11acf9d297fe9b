use Rattle.foreign_lines.proofs.Digested.{of_digest}
use Rattle.foreign_lines.proofs.laws.password_of_digest.Goals as goal

pub returns : goal.returns
returns c = record { digest = of_digest }
