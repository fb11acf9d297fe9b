use Rattle.std.proofs.Common.{◌≡◌, ◌++◌, List, ℕ, drop}
use Rattle.line_filter.specs.MappedSteps.{mapped_after}
use Rattle.line_filter.proofs.mapping.Mapping.pour.Given as goal

abbrev pub invariant-loop-i : goal.invariant-loop-i
invariant-loop-i g l = record {
  shown : (text : List ℕ) → mapped_after (g.R.LineRule.rule l.rule) l.self (drop l.i l.bytes ++ text)
      ≡ mapped_after (g.R.LineRule.rule l.rule) l.fn.self (l.bytes ++ text);
  given : l.self.given ≡ 0;
  piece : l.self.piece ≡ l.fn.self.piece;
  at : l.self.at ≡ l.fn.self.at;
}
