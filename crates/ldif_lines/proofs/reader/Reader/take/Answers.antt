use Rattle.std.proofs.Common.{◌∙◌, refl}
use Rattle.ldif_lines.specs.Steps.{pending, shown_by}
use Rattle.ldif_lines.proofs.reader.Reader.take.Goals as goal

pub returns-clause-shown : goal.returns-clause-shown
unfolding shown_by pending
returns-clause-shown c text =
    c.refill.ensures.shown text ∙ rw (c.push_all.ensures.appended, c.clear.ensures.none, c.requires.none) refl
