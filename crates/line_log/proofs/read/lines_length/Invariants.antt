use Rattle.std.proofs.Common.{length}
use Rattle.line_log.proofs.Walking.{Walked}
use Rattle.line_log.proofs.read.lines_length.Given as goal

abbrev pub invariant-loop-after : goal.invariant-loop-after
invariant-loop-after l = record { walked : Walked l.text l.rest }

abbrev pub decreases-loop-after : goal.decreases-loop-after
decreases-loop-after l = length l.rest
