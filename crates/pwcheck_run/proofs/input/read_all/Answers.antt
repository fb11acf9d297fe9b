use Rattle.std.proofs.Common.{rules}
use Rattle.line_io.proofs.Moved.{consumes_more}
use Rattle.pwcheck_run.proofs.Kept.{joined_within}
use Rattle.pwcheck_run.proofs.input.read_all.Goals as goal

pub returns-in-Err-extend_from_slice-clause-taken : goal.returns-in-Err-extend_from_slice-clause-taken
returns-in-Err-extend_from_slice-clause-taken g c = (
  _,
  consumes_more _ _ _ _ _ c.reads.invariant.taken c.in-Ok.ensures.bytes.0,
  joined_within _ _ c.in-Ok.count _ (search rules),
  λ e. absurd (cc),
)
