use Rattle.std.proofs.Common.{take}
use Rattle.std.specs.List.{flat_map}
use Rattle.line_io.specs.Output.{Puts}
use Rattle.shadow_survey.specs.Counting.{form_row}
use Rattle.shadow_survey.specs.Unsupported.{forms}
use Rattle.shadow_survey.proofs.counts.put_forms.Given as goal

abbrev pub invariant-loop-place : goal.invariant-loop-place
invariant-loop-place g l = Puts (g.K.Sink.written l.initial.sink) (g.K.Sink.written l.sink) (g.K.Sink.faults l.initial.sink)
    (g.K.Sink.faults l.sink) l.initial.out l.out
    (flat_map (form_row l.counts) (take l.place forms))
