use Rattle.std.proofs.Common.{◌∙◌, ◌+◌}
use Rattle.shadow_fields.proofs.Cuts.{behind, first_colon, no_colon}
use Rattle.shadow_fields.proofs.cut.cut_at_colon.Goals as goal

pub returns-in-None : goal.returns-in-None
returns-in-None c = record { cut = no_colon c.args.line.now c.in-None.ensures.place }

pub returns-in-Some : goal.returns-in-Some
returns-in-Some c =
    let place = c.in-Some.ensures.place in
    let t = first_colon c.args.line.now c.in-Some.at place.0 place.1 place.2 in
    record { cut = (t.0, t.1, behind c.args.line.now (c.in-Some.at + 1) ∙ t.2) }
