use Rattle.std.proofs.Common.{◌≡◌, ◌+◌, ◌&&◌, drop}
use Rattle.std.specs.Cmp.Lexicographic.{pointwise}
use Rattle.subtle.proofs.count.eq_with.Given as goal

abbrev pub invariant-loop-i : goal.invariant-loop-i
invariant-loop-i g l = ((l.all && pointwise g.C.SameByte.related (drop l.i l.a) (drop l.i l.b))
    ≡ pointwise g.C.SameByte.related l.a l.b) × (g.C.SameByte.count l.c ≡ g.C.SameByte.count l.fn.c + l.i)
