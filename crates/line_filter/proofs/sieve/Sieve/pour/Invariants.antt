use Rattle.std.proofs.Common.{◌≡◌, ◌≤◌, ◌+◌, ◌++◌, ℕ, List, drop}
use Rattle.line_filter.specs.Steps.{shown, size}
use Rattle.line_filter.proofs.sieve.Sieve.pour.Given as goal

abbrev pub invariant-loop-b : goal.invariant-loop-b
invariant-loop-b l = record {
  shown : (text : List ℕ) → shown l.self (drop l.b-index l.bytes ++ text) ≡ shown l.fn.self (l.bytes ++ text);
  size : size l.self ≤ size l.fn.self + l.b-index;
  forms : l.self.forms ≡ l.fn.self.forms;
}
