use Rattle.std.proofs.Common.{ℕ, List, subst}
use Rattle.line_io.specs.Runs.{IsNew}
use Rattle.any_make.specs.Line.{WritesText}
use Rattle.any_make.proofs.FirstLine.{told_budget, told_long, told_none, told_read, told_text}
use Rattle.any_make.proofs.line.run_make.Goals as goal

pub returns-in-Whole-clause-outcome : goal.returns-in-Whole-clause-outcome
returns-in-Whole-clause-outcome g c =
    let is_new : IsNew 8193 c.new-lines.result = record {
      pending_none = c.new-lines.ensures.pending;
      taken_none = c.new-lines.ensures.taken;
      max_same = c.new-lines.ensures.max;
      unended = c.new-lines.ensures.ended;
      unclosed = c.new-lines.ensures.closed;
    } in
    told_text c.args.cost c.args.salt.now c.args.takes_empty c.new-lines.result c.next_line.new.self is_new c.in-Whole.ensures.one_past c.in-Whole.field-0
    (g.S.Source.left c.args.source.now) (g.S.Source.left c.next_line.new.source) (g.K.Sink.written c.args.sink.now)
    (g.K.Sink.written c.write_text.new.sink) c.write_text.result c.in-Whole.ensures.call
    (subst (λ (l : List ℕ). WritesText c.args.cost c.args.takes_empty l c.args.salt.now (g.K.Sink.written c.args.sink.now)
    (g.K.Sink.written c.write_text.new.sink) c.write_text.result) c.line.ensures c.write_text.ensures.written)

pub returns-in-TooLong-clause-outcome : goal.returns-in-TooLong-clause-outcome
returns-in-TooLong-clause-outcome g c =
    let is_new : IsNew 8193 c.new-lines.result = record {
      pending_none = c.new-lines.ensures.pending;
      taken_none = c.new-lines.ensures.taken;
      max_same = c.new-lines.ensures.max;
      unended = c.new-lines.ensures.ended;
      unclosed = c.new-lines.ensures.closed;
    } in
    told_long c.args.cost c.args.salt.now c.args.takes_empty c.new-lines.result c.next_line.new.self is_new c.in-TooLong.ensures.one_past
    (g.S.Source.left c.args.source.now) (g.S.Source.left c.next_line.new.source) (g.K.Sink.written c.args.sink.now)
    c.in-TooLong.ensures.call

pub returns-in-Budget-clause-outcome : goal.returns-in-Budget-clause-outcome
returns-in-Budget-clause-outcome g c =
    let is_new : IsNew 8193 c.new-lines.result = record {
      pending_none = c.new-lines.ensures.pending;
      taken_none = c.new-lines.ensures.taken;
      max_same = c.new-lines.ensures.max;
      unended = c.new-lines.ensures.ended;
      unclosed = c.new-lines.ensures.closed;
    } in
    told_budget c.args.cost c.args.salt.now c.args.takes_empty c.new-lines.result c.next_line.new.self is_new c.in-Budget.ensures.one_past
    (g.S.Source.left c.args.source.now) (g.S.Source.left c.next_line.new.source) (g.K.Sink.written c.args.sink.now)
    c.in-Budget.ensures.call

pub returns-in-End-clause-outcome : goal.returns-in-End-clause-outcome
returns-in-End-clause-outcome g c =
    let is_new : IsNew 8193 c.new-lines.result = record {
      pending_none = c.new-lines.ensures.pending;
      taken_none = c.new-lines.ensures.taken;
      max_same = c.new-lines.ensures.max;
      unended = c.new-lines.ensures.ended;
      unclosed = c.new-lines.ensures.closed;
    } in
    told_none c.args.cost c.args.salt.now c.args.takes_empty c.new-lines.result c.next_line.new.self is_new c.in-End.ensures.one_past
    (g.S.Source.left c.args.source.now) (g.S.Source.left c.next_line.new.source) (g.K.Sink.written c.args.sink.now)
    c.in-End.ensures.call

pub returns-in-Failed-clause-outcome : goal.returns-in-Failed-clause-outcome
returns-in-Failed-clause-outcome g c =
    let is_new : IsNew 8193 c.new-lines.result = record {
      pending_none = c.new-lines.ensures.pending;
      taken_none = c.new-lines.ensures.taken;
      max_same = c.new-lines.ensures.max;
      unended = c.new-lines.ensures.ended;
      unclosed = c.new-lines.ensures.closed;
    } in
    told_read c.args.cost c.args.salt.now c.args.takes_empty c.new-lines.result c.next_line.new.self is_new c.in-Failed.ensures.one_past
    (g.S.Source.left c.args.source.now) (g.S.Source.left c.next_line.new.source) (g.K.Sink.written c.args.sink.now)
    c.in-Failed.ensures.call
