use Rattle.std.proofs.Common.{length, ◌≤◌}
use Rattle.line_log.proofs.memory.synced_calls.Given as goal

abbrev pub invariant-loop-n : goal.invariant-loop-n
invariant-loop-n l = record { within : l.n ≤ length l.calls }

abbrev pub decreases-loop-n : goal.decreases-loop-n
decreases-loop-n l = l.n
