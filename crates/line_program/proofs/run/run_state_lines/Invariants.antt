use Rattle.std.proofs.Common.{◌≤◌, ◌+◌, ◌-◌, length}
use Rattle.line_io.specs.Buffer.{pending, taken}
use Rattle.line_program.proofs.Running.{Running}
use Rattle.line_program.proofs.run.run_state_lines.Given as goal

abbrev pub invariant-lines : goal.invariant-lines
invariant-lines g l = record {
  so_far : Running g.R.Responder.rules l.initial.responder l.responder (g.S.Source.left l.initial.source)
      (g.S.Source.left l.source)
      (g.K.Sink.written l.initial.sink) (g.K.Sink.written l.sink) (g.K.Sink.faults l.initial.sink)
      (g.K.Sink.faults l.sink) l.lines l.out l.max l.all_good;
  reads : g.S.Source.faults l.initial.source ≤ g.S.Source.faults l.source;
}

-- the bytes that may still be answered
abbrev pub decreases-lines : goal.decreases-lines
decreases-lines g l = l.max + 1 - (taken l.lines - length (pending l.lines))
