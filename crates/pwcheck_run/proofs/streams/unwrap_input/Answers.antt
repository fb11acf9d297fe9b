use Rattle.std.proofs.Common.{min, arith, refl}
use Rattle.pwcheck_run.specs.Streams.{longest_kept, Unwraps}
use Rattle.pwcheck_run.proofs.Kept.{kept_stopped}
use Rattle.pwcheck_run.proofs.streams.unwrap_input.Goals as goal

pub returns-in-Err-clause-outcome : goal.returns-in-Err-clause-outcome
returns-in-Err-clause-outcome g c =
    let taken = c.in-Err.ensures.taken in
    let s = c.stopped.ensures.statuses in
    kept_stopped (Unwraps c.args.width) c.stopped.result (min c.args.max longest_kept) _ _ _ _ taken.0 taken.1 refl
    (omega (arith, c.min.ensures, taken.2)) s.0 s.1 s.2
    (λ e. omega (arith, c.min.ensures, taken.3 (rw (c.stopped.ensures.budget e) refl)))
