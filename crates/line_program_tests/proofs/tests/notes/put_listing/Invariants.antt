use Rattle.std.proofs.Common.{map, take, vec_items}
use Rattle.line_io.specs.Output.{Puts}
use Rattle.line_program_tests.specs.Toys.{listing}
use Rattle.line_program_tests.proofs.tests.notes.put_listing.Given as goal

abbrev pub invariant-loop-text : goal.invariant-loop-text
invariant-loop-text g l =
    Puts (g.K.Sink.written l.initial.sink) (g.K.Sink.written l.sink) (g.K.Sink.faults l.initial.sink)
    (g.K.Sink.faults l.sink) l.initial.out l.out
    (listing (map vec_items (take l.text-index l.texts)))
