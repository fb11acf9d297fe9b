use Rattle.set_lines.proofs.Lines.{lines_of_set_text}
use Rattle.set_lines.proofs.laws.lines_of_sets.Goals as goal

pub returns : goal.returns
returns c = record { law = lines_of_set_text }
