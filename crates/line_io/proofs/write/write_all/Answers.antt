use Rattle.std.proofs.Common.{arith}
use Rattle.line_io.proofs.Moved.{write_step}
use Rattle.line_io.proofs.write.write_all.Goals as goal

pub rest-preserved : goal.rest-preserved
rest-preserved g c = record {
  done = write_step _ _ _ _ _ _ c.rest.invariant.done c.in_ok-count.ensures.bytes;
  later = omega (arith, c.in_ok-count.ensures.count);
}
