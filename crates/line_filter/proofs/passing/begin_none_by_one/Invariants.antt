use Rattle.std.proofs.Common.{◌-◌, ◌≤◌, length}
use Rattle.line_filter.specs.Passed.{NoneBegins}
use Rattle.line_filter.proofs.passing.begin_none_by_one.Given as goal

abbrev pub invariant-loop-i : goal.invariant-loop-i
invariant-loop-i l = record { least : 1 ≤ l.i; free : NoneBegins l.bytes 0 (l.i - 1) }

abbrev pub decreases-loop-i : goal.decreases-loop-i
decreases-loop-i l = length l.bytes - l.i
