use Rattle.std.proofs.Common.{◌≡◌, ◌≤◌, ℕ, List, length}
use Rattle.std.specs.Option.{option_map}
use Rattle.std.specs.Io.KnownBytes.{Consumes, Keeps}
use Rattle.line_filter.specs.Steps.{shown}
use Rattle.line_filter.proofs.filtered.fill.Given as goal

abbrev pub invariant-loop : goal.invariant-loop
invariant-loop g l = record {
  forms : l.sieve.forms ≡ l.initial.sieve.forms;
  left : Keeps (option_map (shown l.initial.sieve) (g.S.Source.left l.initial.source))
      (option_map (shown l.sieve) (g.S.Source.left l.source));
  taken : (bytes : List ℕ) × Consumes (g.S.Source.left l.initial.source) (g.S.Source.left l.source) bytes
      × (l.counter ≤ length bytes);
  count : g.S.Source.faults l.initial.source ≤ g.S.Source.faults l.source;
}
