use Rattle.shadow_fields.proofs.Cuts.{all_before, first_colon}
use Rattle.shadow_fields.proofs.cut.cut_field.Goals as goal

pub returns-in-None : goal.returns-in-None
returns-in-None c = record { field = all_before c.args.rest.now c.in-None.ensures.place }

pub returns-in-Some : goal.returns-in-Some
returns-in-Some c =
    let place = c.in-Some.ensures.place in
    record { field = (first_colon c.args.rest.now c.in-Some.at place.0 place.1 place.2).1 }
