use Rattle.std.proofs.Common.{◌∙◌, ◌∷◌, refl, sym}
use Rattle.line_filter.specs.Steps.{shown, shown_after, shown_kept, waiting}
use Rattle.line_filter.proofs.Shown.{mark_is, mark_past, mark_second}
use Rattle.line_filter.proofs.Shown.{no_third}
use Rattle.line_filter.proofs.sieve.Sieve.take_third.Goals as goal

pub returns-else-b-ne191-clause-shown : goal.returns-else-b-ne191-clause-shown
unfolding shown shown_after shown_kept waiting
returns-else-b-ne191-clause-shown c text = let second = c.requires.second in rw (second, c.if-b-ne191.false) refl

pub returns-then-b-ne191-clause-shown : goal.returns-then-b-ne191-clause-shown
unfolding shown_after shown_kept waiting
returns-then-b-ne191-clause-shown c text =
    let s = c.args.self.now in
    let now = c.take-then-b-ne191-2.new.self in
    let b = c.args.b in
    mark_is now text text (mark_past now.mark text (c.take-then-b-ne191-2.ensures.mark ∙ c.take-then-b-ne191.ensures.mark ∙ c.take.ensures.mark))
    ∙ c.take-then-b-ne191-2.ensures.shown text
    ∙ c.take-then-b-ne191.ensures.shown (b ∷ text)
    ∙ c.take.ensures.shown (187 ∷ b ∷ text)
    ∙ sym (mark_is s (b ∷ text) (239 ∷ 187 ∷ b ∷ text)
    (mark_second s.mark (b ∷ text) c.requires.second ∙ no_third b text c.if-b-ne191.true))
