use Rattle.std.proofs.Common.{arith, rules, refl, ◌≡◌, false}
use Rattle.line_io.specs.Output.{has_failed}
use Rattle.line_program.proofs.Running.{running_start, run_step, run_cut, run_stop_cut, run_end_told, run_failed_told}
use Rattle.line_program.proofs.Running.{reply_count, run_budget_told, run_memory_told}
use Rattle.line_program.proofs.run.run_state_lines.Goals as goal

pub lines-init : goal.lines-init
lines-init g c = record {
  so_far = running_start g.R.Responder.rules _ _ _ _ c.new-lines.result c.new-out.result c.args.max (record {
    pending_none = c.new-lines.ensures.pending;
    taken_none = c.new-lines.ensures.taken;
    max_same = c.new-lines.ensures.max;
    unended = c.new-lines.ensures.ended;
    unclosed = c.new-lines.ensures.closed;
  }) c.new-out.ensures.none c.new-out.ensures.unfailed;
  reads = omega arith;
}

pub returns-then-has_failed-clause-outcome : goal.returns-then-has_failed-clause-outcome
returns-then-has_failed-clause-outcome g c =
    run_cut g.R.Responder.rules _ _ c.next_reply.new.responder _ _ _ _ _ _ _ _ _ c.lines.lines c.next_reply.new.lines
    c.lines.out c.next_reply.new.out c.args.max c.lines.all_good
    c.in-Ok.good c.lines.invariant.so_far c.in-Ok.ensures.next

pub lines-preserved : goal.lines-preserved
lines-preserved g c =
    let unfailed : has_failed c.next_reply.new.out ≡ false = search rules in
    let step = run_step g.R.Responder.rules _ _ c.next_reply.new.responder _ _ _ _ _ _ _ _ _ c.lines.lines
    c.next_reply.new.lines c.lines.out c.next_reply.new.out c.args.max c.lines.all_good
    c.in-Ok.good c.lines.invariant.so_far c.in-Ok.ensures.next unfailed in
    record { so_far = step.0; reads = omega (arith, c.in-Ok.ensures.count, c.lines.invariant.reads) }

pub returns-then-has_failed-2-clause-outcome : goal.returns-then-has_failed-2-clause-outcome
returns-then-has_failed-2-clause-outcome g c =
    run_stop_cut g.R.Responder.rules _ _ c.next_reply.new.responder _ _ _ _ _ _ _ _ _ _ _ c.lines.lines
    c.next_reply.new.lines c.lines.out c.next_reply.new.out c.flush.new.self c.args.max c.lines.all_good
    c.lines.invariant.so_far c.flush.ensures.puts c.in-Err.stop c.in-Err.ensures.next

pub returns-then-all_good-clause-outcome : goal.returns-then-all_good-clause-outcome
returns-then-all_good-clause-outcome g c =
    let unfailed : has_failed c.flush.new.self ≡ false = search rules in
    run_end_told g.R.Responder.rules _ _ c.next_reply.new.responder _ _ _ _ _ _ _ _ _ _ _ c.lines.lines
    c.next_reply.new.lines c.lines.out c.next_reply.new.out c.flush.new.self c.args.max c.lines.all_good
    c.lines.invariant.so_far c.flush.ensures.puts unfailed (c.flush.ensures.none unfailed) 0
    (rw c.in-End.is at c.in-Err.ensures.next) (omega arith) (rw c.if-all_good.true refl)

pub returns-else-all_good-clause-outcome : goal.returns-else-all_good-clause-outcome
returns-else-all_good-clause-outcome g c =
    let unfailed : has_failed c.flush.new.self ≡ false = search rules in
    run_end_told g.R.Responder.rules _ _ c.next_reply.new.responder _ _ _ _ _ _ _ _ _ _ _ c.lines.lines
    c.next_reply.new.lines c.lines.out c.next_reply.new.out c.flush.new.self c.args.max c.lines.all_good
    c.lines.invariant.so_far c.flush.ensures.puts unfailed (c.flush.ensures.none unfailed) 1
    (rw c.in-End.is at c.in-Err.ensures.next) (omega arith) (rw c.if-all_good.false refl)

pub returns-in-ReadFault-clause-outcome : goal.returns-in-ReadFault-clause-outcome
returns-in-ReadFault-clause-outcome g c =
    let unfailed : has_failed c.flush.new.self ≡ false = search rules in
    run_failed_told g.R.Responder.rules _ _ c.next_reply.new.responder _ _ _ _ _ _ _ _ _ _ _ c.lines.lines
    c.next_reply.new.lines c.lines.out c.next_reply.new.out c.flush.new.self c.args.max c.lines.all_good
    c.lines.invariant.so_far c.flush.ensures.puts unfailed (c.flush.ensures.none unfailed)
    (rw c.in-ReadFault.is at c.in-Err.ensures.next)

pub returns-in-Budget-clause-outcome : goal.returns-in-Budget-clause-outcome
returns-in-Budget-clause-outcome g c =
    let unfailed : has_failed c.flush.new.self ≡ false = search rules in
    run_budget_told g.R.Responder.rules _ _ c.next_reply.new.responder _ _ _ _ _ _ _ _ _ _ _ c.lines.lines
    c.next_reply.new.lines c.lines.out c.next_reply.new.out c.flush.new.self c.args.max c.lines.all_good
    c.lines.invariant.so_far c.flush.ensures.puts unfailed (c.flush.ensures.none unfailed)
    (rw c.in-Budget.is at c.in-Err.ensures.next)

pub returns-in-NoMemory-clause-outcome : goal.returns-in-NoMemory-clause-outcome
returns-in-NoMemory-clause-outcome g c =
    let unfailed : has_failed c.flush.new.self ≡ false = search rules in
    run_memory_told g.R.Responder.rules _ _ c.next_reply.new.responder _ _ _ _ _ _ _ _ _ _ _ c.lines.lines
    c.next_reply.new.lines c.lines.out c.next_reply.new.out c.flush.new.self c.args.max c.lines.all_good
    c.lines.invariant.so_far c.flush.ensures.puts unfailed (c.flush.ensures.none unfailed)
    (rw c.in-NoMemory.is at c.in-Err.ensures.next)

pub returns-then-has_failed-clause-count : goal.returns-then-has_failed-clause-count
returns-then-has_failed-clause-count g c =
    let reply = reply_count g.R.Responder.rules c.lines.responder c.next_reply.new.responder
    (g.K.Sink.written c.lines.sink) (g.K.Sink.written c.next_reply.new.sink) (g.K.Sink.faults c.lines.sink)
    (g.K.Sink.faults c.next_reply.new.sink) c.lines.out c.next_reply.new.out c.next_reply.result
    (g.S.Source.left c.lines.source) (g.S.Source.left c.next_reply.new.source) c.lines.lines c.next_reply.new.lines
    c.next_reply.ensures.next in
    omega (arith, c.lines.invariant.so_far.put.count, reply)

pub returns-then-has_failed-2-clause-count : goal.returns-then-has_failed-2-clause-count
returns-then-has_failed-2-clause-count g c =
    let reply = reply_count g.R.Responder.rules c.lines.responder c.next_reply.new.responder
    (g.K.Sink.written c.lines.sink) (g.K.Sink.written c.next_reply.new.sink) (g.K.Sink.faults c.lines.sink)
    (g.K.Sink.faults c.next_reply.new.sink) c.lines.out c.next_reply.new.out c.next_reply.result
    (g.S.Source.left c.lines.source) (g.S.Source.left c.next_reply.new.source) c.lines.lines c.next_reply.new.lines
    c.next_reply.ensures.next in
    omega (arith, c.lines.invariant.so_far.put.count, reply, c.flush.ensures.puts.count)

pub returns-then-all_good-clause-count : goal.returns-then-all_good-clause-count
returns-then-all_good-clause-count g c =
    let reply = reply_count g.R.Responder.rules c.lines.responder c.next_reply.new.responder
    (g.K.Sink.written c.lines.sink) (g.K.Sink.written c.next_reply.new.sink) (g.K.Sink.faults c.lines.sink)
    (g.K.Sink.faults c.next_reply.new.sink) c.lines.out c.next_reply.new.out c.next_reply.result
    (g.S.Source.left c.lines.source) (g.S.Source.left c.next_reply.new.source) c.lines.lines c.next_reply.new.lines
    c.next_reply.ensures.next in
    omega (arith, c.lines.invariant.so_far.put.count, reply, c.flush.ensures.puts.count)

pub returns-else-all_good-clause-count : goal.returns-else-all_good-clause-count
returns-else-all_good-clause-count g c =
    let reply = reply_count g.R.Responder.rules c.lines.responder c.next_reply.new.responder
    (g.K.Sink.written c.lines.sink) (g.K.Sink.written c.next_reply.new.sink) (g.K.Sink.faults c.lines.sink)
    (g.K.Sink.faults c.next_reply.new.sink) c.lines.out c.next_reply.new.out c.next_reply.result
    (g.S.Source.left c.lines.source) (g.S.Source.left c.next_reply.new.source) c.lines.lines c.next_reply.new.lines
    c.next_reply.ensures.next in
    omega (arith, c.lines.invariant.so_far.put.count, reply, c.flush.ensures.puts.count)

pub returns-in-ReadFault-clause-count : goal.returns-in-ReadFault-clause-count
returns-in-ReadFault-clause-count g c =
    let reply = reply_count g.R.Responder.rules c.lines.responder c.next_reply.new.responder
    (g.K.Sink.written c.lines.sink) (g.K.Sink.written c.next_reply.new.sink) (g.K.Sink.faults c.lines.sink)
    (g.K.Sink.faults c.next_reply.new.sink) c.lines.out c.next_reply.new.out c.next_reply.result
    (g.S.Source.left c.lines.source) (g.S.Source.left c.next_reply.new.source) c.lines.lines c.next_reply.new.lines
    c.next_reply.ensures.next in
    omega (arith, c.lines.invariant.so_far.put.count, reply, c.flush.ensures.puts.count)

pub returns-in-WriteFault-clause-count : goal.returns-in-WriteFault-clause-count
returns-in-WriteFault-clause-count g c =
    let reply = reply_count g.R.Responder.rules c.lines.responder c.next_reply.new.responder
    (g.K.Sink.written c.lines.sink) (g.K.Sink.written c.next_reply.new.sink) (g.K.Sink.faults c.lines.sink)
    (g.K.Sink.faults c.next_reply.new.sink) c.lines.out c.next_reply.new.out c.next_reply.result
    (g.S.Source.left c.lines.source) (g.S.Source.left c.next_reply.new.source) c.lines.lines c.next_reply.new.lines
    c.next_reply.ensures.next in
    omega (arith, c.lines.invariant.so_far.put.count, reply, c.flush.ensures.puts.count)

pub returns-in-Budget-clause-count : goal.returns-in-Budget-clause-count
returns-in-Budget-clause-count g c =
    let reply = reply_count g.R.Responder.rules c.lines.responder c.next_reply.new.responder
    (g.K.Sink.written c.lines.sink) (g.K.Sink.written c.next_reply.new.sink) (g.K.Sink.faults c.lines.sink)
    (g.K.Sink.faults c.next_reply.new.sink) c.lines.out c.next_reply.new.out c.next_reply.result
    (g.S.Source.left c.lines.source) (g.S.Source.left c.next_reply.new.source) c.lines.lines c.next_reply.new.lines
    c.next_reply.ensures.next in
    omega (arith, c.lines.invariant.so_far.put.count, reply, c.flush.ensures.puts.count)

pub returns-in-NoMemory-clause-count : goal.returns-in-NoMemory-clause-count
returns-in-NoMemory-clause-count g c =
    let reply = reply_count g.R.Responder.rules c.lines.responder c.next_reply.new.responder
    (g.K.Sink.written c.lines.sink) (g.K.Sink.written c.next_reply.new.sink) (g.K.Sink.faults c.lines.sink)
    (g.K.Sink.faults c.next_reply.new.sink) c.lines.out c.next_reply.new.out c.next_reply.result
    (g.S.Source.left c.lines.source) (g.S.Source.left c.next_reply.new.source) c.lines.lines c.next_reply.new.lines
    c.next_reply.ensures.next in
    omega (arith, c.lines.invariant.so_far.put.count, reply, c.flush.ensures.puts.count)
