use Rattle.std.proofs.Common.{◌++◌, arith, length-append}
use Rattle.line_io.proofs.Moved.{consumes_more}
use Rattle.line_filter.proofs.Sources.{keeps_on}
use Rattle.line_filter.proofs.mapped.fill_mapped.Goals as goal

pub loop-preserved : goal.loop-preserved
loop-preserved g c =
    let taken = c.loop.invariant.taken in
    let more = c.in_ok-take_piece.ensures.taken c.if-branch.false in
    record {
      given = c.in_ok-take_piece.ensures.all;
      left = keeps_on _ _ _ c.loop.invariant.left c.take_piece.ensures.left;
      taken = (
        taken.0 ++ more.0,
        consumes_more _ _ _ taken.0 more.0 taken.1 more.1,
        omega (arith, length-append taken.0 more.0, taken.2, more.2),
      );
      count = omega (arith, c.take_piece.ensures.count, c.loop.invariant.count);
    }
