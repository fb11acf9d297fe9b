use Rattle.std.proofs.Common.{◌≤◌, ℕ, List, length}
use Rattle.std.specs.Option.{option_map}
use Rattle.std.specs.Io.KnownBytes.{Consumes, Keeps}
use Rattle.set_lines.specs.Steps.{shown}
use Rattle.set_lines.proofs.source.fill.Given as goal

abbrev pub invariant-loop : goal.invariant-loop
invariant-loop g l = record {
  left : Keeps (option_map (shown l.initial.sets) (g.S.Source.left l.initial.source))
      (option_map (shown l.sets) (g.S.Source.left l.source));
  taken : (bytes : List ℕ) × Consumes (g.S.Source.left l.initial.source) (g.S.Source.left l.source) bytes
      × (l.counter ≤ length bytes);
  count : g.S.Source.faults l.initial.source ≤ g.S.Source.faults l.source;
}
