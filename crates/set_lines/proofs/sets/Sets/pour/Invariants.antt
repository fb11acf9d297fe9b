use Rattle.std.proofs.Common.{◌≡◌, ◌≤◌, ◌+◌, ◌*◌, ◌++◌, ℕ, List, drop, length}
use Rattle.set_lines.specs.Steps.{shown}
use Rattle.set_lines.proofs.sets.Sets.pour.Given as goal

abbrev pub invariant-loop-b : goal.invariant-loop-b
invariant-loop-b l = record {
  shown : (text : List ℕ) → shown l.self (drop l.b-index l.bytes ++ text) ≡ shown l.fn.self (l.bytes ++ text);
  size : length l.self.ready ≤ length l.fn.self.ready + 5 * l.b-index;
}
