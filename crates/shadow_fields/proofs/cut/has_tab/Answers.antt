use Rattle.std.proofs.Common.{rules, ◌≡◌, ◌∙◌}
use Rattle.std.specs.Prelude.{is_some}
use Rattle.shadow_fields.proofs.Cuts.{found_tab}
use Rattle.shadow_fields.proofs.cut.has_tab.Goals as goal

pub returns : goal.returns
returns c =
    let some : c.is_some.result ≡ is_some c.first_place.result = search rules in
    record { tab = some ∙ found_tab c.args.bytes.now c.first_place.result c.first_place.ensures.place }
