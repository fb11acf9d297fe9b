use Rattle.std.proofs.Common.{◌≡◌, false}
use Rattle.line_io.specs.Buffer.{is_closed}
use Rattle.line_io_tests.proofs.tests.expect_answers.Given as goal

abbrev pub invariant-loop-want : goal.invariant-loop-want
invariant-loop-want g l = is_closed l.buffer ≡ false
