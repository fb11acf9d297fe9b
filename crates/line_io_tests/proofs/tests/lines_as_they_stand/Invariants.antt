use Rattle.std.proofs.Common.{◌≡◌, false}
use Rattle.line_io.specs.Buffer.{is_closed}
use Rattle.line_io_tests.proofs.tests.lines_as_they_stand.Given as goal

abbrev pub invariant-loop-row : goal.invariant-loop-row
invariant-loop-row g l = is_closed l.buffer ≡ false
