use Rattle.line_filter.proofs.Lines.{lines_without}
use Rattle.line_filter.proofs.laws.lines_without_returns.Goals as goal

pub returns : goal.returns
returns c = record { lines = lines_without }
