use Rattle.std.proofs.Common.{take}
use Rattle.line_io.specs.Output.{Puts}
use Rattle.pw_store.specs.Stored.{rows_of}
use Rattle.store_run.specs.Export.{export_text}
use Rattle.store_run.proofs.export.put_lines.Given as goal

abbrev pub invariant-loop-i : goal.invariant-loop-i
invariant-loop-i g l = Puts (g.K.Sink.written l.initial.sink) (g.K.Sink.written l.sink) (g.K.Sink.faults l.initial.sink)
    (g.K.Sink.faults l.sink) l.initial.out l.out
    (export_text (take l.i (rows_of l.store)))
