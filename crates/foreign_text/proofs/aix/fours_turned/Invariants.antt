use Rattle.std.proofs.Common.{◌≡◌, ◌≤◌, ◌+◌, ◌++◌, length}
use Rattle.foreign_text.specs.Aix.{fours_turned}
use Rattle.foreign_text.proofs.aix.fours_turned.Given as goal

abbrev pub invariant-loop-key : goal.invariant-loop-key
invariant-loop-key l = (l.turned ++ fours_turned l.key ≡ fours_turned l.fn.key) × (length l.turned + length l.key ≤ 84)

abbrev pub decreases-loop-key : goal.decreases-loop-key
decreases-loop-key l = length l.key
