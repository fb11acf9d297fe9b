use Rattle.line_filter.proofs.Lines.{lines_of_kept}
use Rattle.line_filter.proofs.laws.lines_kept.Goals as goal

pub returns : goal.returns
returns c = record { lines = lines_of_kept }
