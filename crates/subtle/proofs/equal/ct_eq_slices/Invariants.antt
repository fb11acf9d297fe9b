use Rattle.std.proofs.Common.{◌≡◌, ◌&&◌, drop}
use Rattle.std.specs.Cmp.Lexicographic.{pointwise}
use Rattle.subtle.proofs.equal.ct_eq_slices.Given as goal

abbrev pub invariant-loop-i : goal.invariant-loop-i
invariant-loop-i g l = (l.all && pointwise g.T.ConstantTimeEq.are_equal (drop l.i l.a) (drop l.i l.b))
    ≡ pointwise g.T.ConstantTimeEq.are_equal l.a l.b
