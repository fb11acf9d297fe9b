use Rattle.std.proofs.Common.{◌≡◌, ◌≤◌, [], ℕ, List, length}
use Rattle.std.specs.Option.{option_map}
use Rattle.std.specs.Io.KnownBytes.{Consumes, Keeps}
use Rattle.line_filter.specs.MappedSteps.{mapped_shown, pending_of, waiting_of}
use Rattle.line_filter.proofs.mapped.fill_mapped.Given as goal

abbrev pub invariant-loop : goal.invariant-loop
invariant-loop g l = record {
  given : waiting_of l.mapping ≡ [] → pending_of l.mapping ≡ [];
  left : Keeps (option_map (mapped_shown (g.R.LineRule.rule l.rule) l.initial.mapping) (g.S.Source.left l.initial.source))
      (option_map (mapped_shown (g.R.LineRule.rule l.rule) l.mapping) (g.S.Source.left l.source));
  taken : (bytes : List ℕ) × Consumes (g.S.Source.left l.initial.source) (g.S.Source.left l.source) bytes
      × (l.counter ≤ length bytes);
  count : g.S.Source.faults l.initial.source ≤ g.S.Source.faults l.source;
}
