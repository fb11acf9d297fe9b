use Rattle.std.proofs.Common.{rules, add-one}
use Rattle.subtle.proofs.Selecting.{selection_grows}
use Rattle.subtle.proofs.select.ArrayConditionallySelectable.conditional_select.Goals as goal

pub loop-i-preserved : goal.loop-i-preserved
loop-i-preserved g c =
    rw (c.loop-i.invariant, c.conditional_select.ensures, add-one)
    (selection_grows c.args.choice c.args.a.now c.args.b.now c.loop-i.i c.index-a-i.result c.index-b-i.result
    (search rules) (search rules))
