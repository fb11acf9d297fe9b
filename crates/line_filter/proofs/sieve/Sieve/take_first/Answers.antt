use Rattle.std.proofs.Common.{◌∙◌, ◌∷◌, sym, ap}
use Rattle.line_filter.specs.Forms.{without_mark}
use Rattle.line_filter.specs.Steps.{shown, shown_after, shown_kept, waiting}
use Rattle.line_filter.proofs.Shown.{mark_is, mark_past, mark_due}
use Rattle.line_filter.proofs.Shown.{no_mark}
use Rattle.line_filter.proofs.sieve.Sieve.take_first.Goals as goal

pub returns-then-b-eq239-clause-shown : goal.returns-then-b-eq239-clause-shown
unfolding shown shown_after shown_kept waiting
returns-then-b-eq239-clause-shown c text =
    let s = c.args.self.now in
    let b = c.args.b in
    sym (mark_is s (b ∷ text) (without_mark (239 ∷ text))
    (mark_due s.mark (b ∷ text) c.requires.due ∙ ap (λ x. without_mark (x ∷ text)) c.if-b-eq239.true))

pub returns-else-b-eq239-clause-shown : goal.returns-else-b-eq239-clause-shown
unfolding shown_after shown_kept waiting
returns-else-b-eq239-clause-shown c text =
    let s = c.args.self.now in
    let now = c.take.new.self in
    let b = c.args.b in
    mark_is now text text (mark_past now.mark text c.take.ensures.mark)
    ∙ c.take.ensures.shown text
    ∙ sym (mark_is s (b ∷ text) (b ∷ text)
    (mark_due s.mark (b ∷ text) c.requires.due ∙ no_mark b text c.if-b-eq239.false))
