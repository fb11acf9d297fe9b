use Rattle.std.proofs.Common.{◌≡◌, [], length, min, arith, refl}
use Rattle.pwcheck_run.specs.Streams.{longest_kept, Wraps}
use Rattle.line_io.proofs.Moved.{appends_none}
use Rattle.pwcheck_run.proofs.Kept.{kept_stopped, kept_done, wraps_none}
use Rattle.pwcheck_run.proofs.streams.wrap_input.Goals as goal

pub returns-in-Err-clause-outcome : goal.returns-in-Err-clause-outcome
returns-in-Err-clause-outcome g c =
    let taken = c.in-Err.ensures.taken in
    let s = c.stopped.ensures.statuses in
    kept_stopped (Wraps c.args.width) c.stopped.result (min c.args.max longest_kept) _ _ _ _ taken.0 taken.1 refl
    (omega (arith, c.min.ensures, taken.2)) s.0 s.1 s.2
    (λ e. omega (arith, c.min.ensures, taken.3 (rw (c.stopped.ensures.budget e) refl)))

pub returns-then-len-eq0-clause-outcome : goal.returns-then-len-eq0-clause-outcome
returns-then-len-eq0-clause-outcome g c =
    let whole = c.in-Ok.ensures.whole in
    let len : length c.in-Ok.input.items ≡ 0 = omega (arith, c.in-Ok.input.ok.0, c.len.ensures, c.if-len-eq0.true) in
    kept_done (Wraps c.args.width) (min c.args.max longest_kept) _ _ _ _ c.in-Ok.input.items [] whole.0 whole.2
    (omega (arith, len)) (appends_none _) (wraps_none c.args.width c.in-Ok.input.items c.requires.width len)
