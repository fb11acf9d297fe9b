use Rattle.std.proofs.Common.{◌≡◌, ◌∷◌, slice_index, take}
use Rattle.line_io.specs.Output.{Puts}
use Rattle.shadow_survey.specs.Rows.{shown_after}
use Rattle.shadow_survey.proofs.rows.put_shown.Given as goal

abbrev pub invariant-loop-i : goal.invariant-loop-i
invariant-loop-i g l = Puts (g.K.Sink.written l.initial.sink) (g.K.Sink.written l.sink) (g.K.Sink.faults l.initial.sink)
    (g.K.Sink.faults l.sink) l.initial.out l.out
    (shown_after l.format 0 (take l.i l.text)) × (l.before ≡ slice_index (0 ∷ l.text) l.i)
