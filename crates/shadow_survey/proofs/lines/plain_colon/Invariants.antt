use Rattle.std.proofs.Common.{◌≡◌, ◌-◌, ◌≤◌, length, take, true}
use Rattle.std.specs.List.{list_all}
use Rattle.pieces.specs.Places.{LacksBelow}
use Rattle.shadow_survey.specs.Rows.{is_plain}
use Rattle.shadow_survey.proofs.lines.plain_colon.Given as goal

abbrev pub invariant-loop-i : goal.invariant-loop-i
invariant-loop-i l = record {
  within : l.i ≤ length l.line;
  lacks : LacksBelow 58 l.line l.i;
  plain : list_all is_plain (take l.i l.line) ≡ true;
}

abbrev pub decreases-loop-i : goal.decreases-loop-i
decreases-loop-i l = length l.line - l.i
