use Rattle.std.proofs.Common.{◌∙◌, sym}
use Rattle.shadow_survey.specs.Unsupported.{forms, has_form}
use Rattle.shadow_survey.proofs.Forms.{form_found, form_further, from_first}
use Rattle.shadow_survey.proofs.unsupported.form_of.Goals as goal

pub loop-place-init : goal.loop-place-init
loop-place-init c = from_first c.args.text.now

pub loop-place-preserved : goal.loop-place-preserved
loop-place-preserved c =
    c.loop-place.invariant
    ∙ form_further (has_form c.args.text.now) forms c.loop-place.place c.at-form.result c.at-form.ensures.form
    (sym c.is_of.ensures ∙ c.if-is_of.false)

pub returns-then-is_of : goal.returns-then-is_of
returns-then-is_of c =
    sym (c.loop-place.invariant
    ∙ form_found (has_form c.args.text.now) forms c.loop-place.place c.at-form.result c.at-form.ensures.form
    (sym c.is_of.ensures ∙ c.if-is_of.true))
