use Rattle.std.proofs.Common.{◌≡◌, cond, ◌++◌, take, drop}
use Rattle.subtle.proofs.select.ArrayConditionallySelectable.conditional_select.Given as goal

abbrev pub invariant-loop-i : goal.invariant-loop-i
invariant-loop-i g l = l.selected ≡ take l.i (cond l.choice l.fn.b l.fn.a) ++ drop l.i l.fn.a
