use Rattle.std.proofs.Common.{◌≤◌, ◌+◌, ◌-◌, length}
use Rattle.line_io.specs.Buffer.{pending, taken}
use Rattle.pw_store.specs.Progress.{IsReady, held_by}
use Rattle.pw_store.specs.Stored.{rows_of, size_of}
use Rattle.pw_store.proofs.Outcomes.{Running}
use Rattle.pw_store.proofs.run.run_store.Given as goal

abbrev pub invariant-lines : goal.invariant-lines
invariant-lines g l = record {
  ready : IsReady g.P.Policy.policy g.D.Device.seen g.D.Device.may_leave l.store l.group;
  runs : Running g.P.Policy.policy g.D.Device.seen g.D.Device.may_leave g.D.Device.moment g.D.Device.left_since g.D.Device.faults
      (record {
        rows = rows_of l.initial.store;
        size = size_of l.initial.store;
        device = l.initial.store.log.device;
        written = g.K.Sink.written l.initial.sink;
        faults = g.K.Sink.faults l.initial.sink;
        out = l.initial.out;
      })
      (g.S.Source.left l.initial.source) (g.S.Source.left l.source) l.lines l.max (held_by l.store l.group) l.out (g.K.Sink.written l.sink) (g.K.Sink.faults l.sink) l.all_good;
  reads : g.S.Source.faults l.initial.source ≤ g.S.Source.faults l.source;
}

-- the bytes that may still be answered
abbrev pub decreases-lines : goal.decreases-lines
decreases-lines g l = l.max + 1 - (taken l.lines - length (pending l.lines))
