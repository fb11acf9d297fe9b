use Rattle.std.proofs.Common.{refl, ap}
use Rattle.line_io.specs.declared.buffer.Line.TheVariants.{Whole, TooLong}
use Rattle.pw_store.proofs.next.next_step.Goals as goal

pub returns-then-has_failed-clause-next : goal.returns-then-has_failed-clause-next
returns-then-has_failed-clause-next g c = λ from asked all so_far. (so_far, (refl, refl))

pub returns-in-Ok-clause-next : goal.returns-in-Ok-clause-next
returns-in-Ok-clause-next g c = λ from asked all so_far.
    let call = rw c.in-Ok-Whole.field-0-is at c.in-Ok-Whole.ensures.call in
    let served = rw c.line.ensures at (c.in-Ok.ensures.served from asked all (c.next_line.ensures.goes_on from asked all so_far)) in
    (Whole c.in-Ok-Whole.field-0-0, call, refl, _, call.takes.answered.2, call.takes.answered.3, served)

pub returns-in-Err-serve_line-clause-next : goal.returns-in-Err-serve_line-clause-next
returns-in-Err-serve_line-clause-next g c = λ from asked all so_far.
    let call = rw c.in-Ok-Whole.field-0-is at c.in-Ok-Whole.ensures.call in
    let served = rw c.line.ensures at (c.in-Err-serve_line.ensures.served from asked all (c.next_line.ensures.goes_on from asked all so_far)) in
    (served.0, (Whole c.in-Ok-Whole.field-0-0, call, refl, _, call.takes.answered.2, call.takes.answered.3, served.1))

pub returns-in-Ok-TooLong-clause-next : goal.returns-in-Ok-TooLong-clause-next
returns-in-Ok-TooLong-clause-next g c = λ from asked all so_far.
    let call = rw c.in-Ok-TooLong.field-0-is at c.in-Ok-TooLong.ensures.call in
    let l = call.takes.answered.1 in
    (TooLong, call, refl, l.0, l.2, l.3, c.serve_long.ensures.served l.0 l.1 from asked all (c.next_line.ensures.goes_on from asked all so_far))

pub returns-in-Ok-End-clause-next : goal.returns-in-Ok-End-clause-next
returns-in-Ok-End-clause-next g c = λ from asked all so_far.
    (c.next_line.ensures.goes_on from asked all so_far, rw c.in-Ok-End.field-0-is at c.in-Ok-End.ensures.call)

pub returns-in-Ok-Failed-clause-next : goal.returns-in-Ok-Failed-clause-next
returns-in-Ok-Failed-clause-next g c = λ from asked all so_far.
    (c.next_line.ensures.goes_on from asked all so_far, rw c.in-Ok-Failed.field-0-is at c.in-Ok-Failed.ensures.call)

pub returns-in-Ok-Budget-clause-next : goal.returns-in-Ok-Budget-clause-next
returns-in-Ok-Budget-clause-next g c = λ from asked all so_far.
    (c.next_line.ensures.goes_on from asked all so_far, rw c.in-Ok-Budget.field-0-is at c.in-Ok-Budget.ensures.call)

pub returns-in-Err-clause-next : goal.returns-in-Err-clause-next
returns-in-Err-clause-next g c = λ from asked all so_far.
    (c.next_line.ensures.goes_on from asked all so_far, (ap g.S.Source.left c.in-Err.ensures.unread.1, c.in-Err.ensures.unread.0))
