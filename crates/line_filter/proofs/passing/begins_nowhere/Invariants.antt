use Rattle.std.proofs.Common.{◌-◌}
use Rattle.line_filter.specs.Passed.{NoneBegins}
use Rattle.line_filter.proofs.passing.begins_nowhere.Given as goal

abbrev pub invariant-loop-i : goal.invariant-loop-i
invariant-loop-i l = record { free : NoneBegins l.bytes 0 l.i }

abbrev pub decreases-loop-i : goal.decreases-loop-i
decreases-loop-i l = l.last - l.i
