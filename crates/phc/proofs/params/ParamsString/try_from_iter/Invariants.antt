use Rattle.std.proofs.Common.{◌≡◌, [], Ok, map}
use Rattle.phc.specs.ValueViews.{pair_view}
use Rattle.phc.specs.Params.{add_each}
use Rattle.phc.proofs.params.ParamsString.try_from_iter.Given as goal

-- the pairs so far are those that came, added one after another
abbrev pub invariant-loop-name : goal.invariant-loop-name
invariant-loop-name g l = add_each (Ok []) (map pair_view l.yielded) ≡ Ok l.params
