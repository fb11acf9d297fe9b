use Rattle.std.proofs.Common.{refl, ◌∷◌}
use Rattle.line_filter.specs.Met.{has_mark_after, mark_with, returns_with}
use Rattle.line_filter.proofs.Noticing.{looked}
use Rattle.line_filter.proofs.noticed.Noticing.look.Goals as goal

pub returns-clause-marks : goal.returns-clause-marks
unfolding mark_with
returns-clause-marks c text =
    let s = c.args.self.now in
    looked s.has_mark (has_mark_after s.mark (c.args.b ∷ text)) (has_mark_after c.mark_step-mark.result.0 text)
    c.mark_step-mark.result.1 (c.mark_step-mark.ensures.mark text)

pub returns-clause-returns : goal.returns-clause-returns
unfolding returns_with
returns-clause-returns c text = refl
