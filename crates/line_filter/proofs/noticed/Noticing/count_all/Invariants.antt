use Rattle.std.proofs.Common.{◌≡◌, ◌++◌, ℕ, List, drop}
use Rattle.line_filter.specs.Met.{mark_with, returns_with}
use Rattle.line_filter.proofs.noticed.Noticing.count_all.Given as goal

abbrev pub invariant-loop-b : goal.invariant-loop-b
invariant-loop-b l = record {
  returns : (text : List ℕ) → returns_with l.self (drop l.b-index l.bytes ++ text) ≡ returns_with l.fn.self (l.bytes ++ text);
  marks : (text : List ℕ) → mark_with l.self text ≡ mark_with l.fn.self text;
}
