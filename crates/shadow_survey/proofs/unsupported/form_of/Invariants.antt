use Rattle.std.proofs.Common.{◌≡◌, drop}
use Rattle.shadow_survey.specs.Unsupported.{first_form, form_of, forms, has_form}
use Rattle.shadow_survey.proofs.unsupported.form_of.Given as goal

abbrev pub invariant-loop-place : goal.invariant-loop-place
invariant-loop-place l = form_of l.text ≡ first_form (has_form l.text) (drop l.place forms)
