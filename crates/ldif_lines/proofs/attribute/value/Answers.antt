use Rattle.std.proofs.Common.{◌∙◌, ◌+◌, ap, refl, List, ℕ}
use Rattle.ldif_lines.specs.Attributes.{value, value_in}
use Rattle.ldif_lines.proofs.Colons.{after_place, first_colon, no_colon}
use Rattle.ldif_lines.proofs.attribute.value.Goals as goal

pub returns-in-None : goal.returns-in-None
unfolding value
returns-in-None c = rw (no_colon c.args.line.now c.in-None.ensures.place) refl

pub returns-in-Some : goal.returns-in-Some
unfolding value
returns-in-Some c =
    let place = c.in-Some.ensures.place in
    let t = first_colon c.args.line.now c.in-Some.at place.0 place.1 place.2 in
    rw t.0
    (c.value_in.ensures
    ∙ ap (λ (text : List ℕ). value_in text) (after_place c.args.line.now (c.in-Some.at + 1) ∙ t.2))
