use Rattle.std.proofs.Common.{◌∙◌, sym}
use Rattle.scheme_list.specs.Schemes.{has_name, schemes}
use Rattle.scheme_list.proofs.Found.{found_further}
use Rattle.scheme_list.proofs.names.scheme_of_name.Goals as goal

pub loop-place-preserved : goal.loop-place-preserved
loop-place-preserved c =
    c.loop-place.invariant
    ∙ found_further (has_name c.args.name.now) schemes c.loop-place.place c.at-scheme.result c.at-scheme.ensures.scheme
    (sym c.has_name.ensures ∙ c.if-has_name.false)
