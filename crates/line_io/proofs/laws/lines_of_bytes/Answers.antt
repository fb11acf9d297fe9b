use Rattle.line_io.proofs.Runs as runs
use Rattle.line_io.proofs.laws.lines_of_bytes.Goals as goal

pub returns : goal.returns
returns c = runs.lines_of_bytes
