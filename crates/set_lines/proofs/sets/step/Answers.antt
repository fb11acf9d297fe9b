use Rattle.std.proofs.Common.{◌∙◌, ◌∷◌, ap, Some}
use Rattle.set_lines.specs.Rests.{rest}
use Rattle.set_lines.specs.declared.sets.Part.{Part}
use Rattle.set_lines.proofs.Parts.{at_feed, more_byte, text_byte, text_ends, user_byte, user_ends, user_tab}
use Rattle.set_lines.proofs.sets.step.Goals as goal

pub returns-then-b-eq10 : goal.returns-then-b-eq10
returns-then-b-eq10 c text = at_feed c.args.part c.args.b text c.if-b-eq10.true

pub returns-then-b-eq58 : goal.returns-then-b-eq58
returns-then-b-eq58 c text =
    ap (λ (part : Part). rest (Some part) (c.args.b ∷ text)) c.in-User.is ∙ user_ends c.args.b text c.if-b-eq58.true

pub returns-then-b-eq9 : goal.returns-then-b-eq9
returns-then-b-eq9 c text =
    ap (λ (part : Part). rest (Some part) (c.args.b ∷ text)) c.in-User.is ∙ user_tab c.args.b text c.if-b-eq9.true

pub returns-else-b-eq9 : goal.returns-else-b-eq9
returns-else-b-eq9 c text =
    ap (λ (part : Part). rest (Some part) (c.args.b ∷ text)) c.in-User.is
    ∙ user_byte c.args.b text c.if-b-eq10.false c.if-b-eq58.false c.if-b-eq9.false

pub returns-then-b-eq58-2 : goal.returns-then-b-eq58-2
returns-then-b-eq58-2 c text =
    ap (λ (part : Part). rest (Some part) (c.args.b ∷ text)) c.in-Text.is ∙ text_ends c.args.b text c.if-b-eq58-2.true

pub returns-else-b-eq58-2 : goal.returns-else-b-eq58-2
returns-else-b-eq58-2 c text =
    ap (λ (part : Part). rest (Some part) (c.args.b ∷ text)) c.in-Text.is
    ∙ text_byte c.args.b text c.if-b-eq10.false c.if-b-eq58-2.false

pub returns-in-More : goal.returns-in-More
returns-in-More c text =
    ap (λ (part : Part). rest (Some part) (c.args.b ∷ text)) c.in-More.is ∙ more_byte c.args.b text c.if-b-eq10.false
