use Rattle.std.proofs.Common.{◌≡◌, ◌≤◌, ◌++◌, List, ℕ, length}
use Rattle.std.specs.Io.KnownBytes.{Appends}
use Rattle.line_io.proofs.write.write_all.Given as goal

-- what was written and what is left are the piece
abbrev pub invariant-rest : goal.invariant-rest
invariant-rest g l = record {
  done : (bs : List ℕ) × Appends (g.K.Sink.written l.initial.sink) (g.K.Sink.written l.sink) bs
      × (bs ++ l.rest ≡ l.piece);
  later : g.K.Sink.faults l.initial.sink ≤ g.K.Sink.faults l.sink;
}

abbrev pub decreases-rest : goal.decreases-rest
decreases-rest g l = length l.rest
