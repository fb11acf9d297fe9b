use Rattle.std.proofs.Common.{◌≡◌, ◌++◌, ℕ, List, drop}
use Rattle.line_filter.specs.Passed.{passed_with}
use Rattle.line_filter.proofs.passing.Passing.step_all.Given as goal

abbrev pub invariant-loop-b : goal.invariant-loop-b
invariant-loop-b l = record {
  count : (text : List ℕ) → passed_with l.self (drop l.b-index l.bytes ++ text) ≡ passed_with l.fn.self (l.bytes ++ text);
}
