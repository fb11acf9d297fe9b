use Rattle.std.proofs.Common.{◌≡◌}
use Rattle.phc.specs.Params.{get}
use Rattle.phc.specs.ValueViews.{pairs_left}
use Rattle.phc.proofs.params.ParamsString.get_named.Given as goal

-- the first value is among the pairs that are left
abbrev pub invariant-pairs : goal.invariant-pairs
invariant-pairs l = get (pairs_left l.other-iterator) l.fn.name ≡ get l.fn.self l.fn.name
