use Rattle.std.proofs.Common.{◌∙◌, ◌+◌, ap, List, ℕ}
use Rattle.shadow_fields.specs.Fields.{first_field}
use Rattle.shadow_fields.proofs.Cuts.{behind}
use Rattle.shadow_survey.proofs.Plainness.{plain_surveyed}
use Rattle.shadow_survey.proofs.lines.plain_user_and_text.Goals as goal

pub returns-clause-some : goal.returns-clause-some
returns-clause-some c least =
    let line = c.args.line.now in
    let at = c.in_ok-at.at in
    let place = c.in_ok-at.ensures.place in
    plain_surveyed least line at c.cut_field.result.now place.0 place.1 place.2 place.3
    (c.cut_field.ensures.field ∙ ap (λ (r : List ℕ). first_field r) (behind line (at + 1)))
