use Rattle.std.proofs.Common.{◌≡◌, ◌++◌, List, ℕ, drop}
use Rattle.ldif_lines.specs.Steps.{shown}
use Rattle.ldif_lines.proofs.pour.pour.Given as goal

abbrev pub invariant-loop-i : goal.invariant-loop-i
invariant-loop-i l = (text : List ℕ) → shown l.dump (drop l.i l.bytes ++ text) ≡ shown l.fn.dump (l.bytes ++ text)
