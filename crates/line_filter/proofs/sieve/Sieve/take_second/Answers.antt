use Rattle.std.proofs.Common.{◌∙◌, ◌∷◌, sym, ap}
use Rattle.line_filter.specs.Forms.{without_mark}
use Rattle.line_filter.specs.Steps.{shown, shown_after, shown_kept, waiting}
use Rattle.line_filter.proofs.Shown.{mark_is, mark_past, mark_first}
use Rattle.line_filter.proofs.Shown.{no_second}
use Rattle.line_filter.proofs.sieve.Sieve.take_second.Goals as goal

pub returns-then-b-eq187-clause-shown : goal.returns-then-b-eq187-clause-shown
unfolding shown shown_after shown_kept waiting
returns-then-b-eq187-clause-shown c text =
    let s = c.args.self.now in
    let b = c.args.b in
    sym (mark_is s (b ∷ text) (without_mark (239 ∷ 187 ∷ text))
    (mark_first s.mark (b ∷ text) c.requires.first ∙ ap (λ x. without_mark (239 ∷ x ∷ text)) c.if-b-eq187.true))

pub returns-else-b-eq187-clause-shown : goal.returns-else-b-eq187-clause-shown
unfolding shown_after shown_kept waiting
returns-else-b-eq187-clause-shown c text =
    let s = c.args.self.now in
    let now = c.take-else-b-eq187.new.self in
    let b = c.args.b in
    mark_is now text text (mark_past now.mark text (c.take-else-b-eq187.ensures.mark ∙ c.take.ensures.mark))
    ∙ c.take-else-b-eq187.ensures.shown text
    ∙ c.take.ensures.shown (b ∷ text)
    ∙ sym (mark_is s (b ∷ text) (239 ∷ b ∷ text)
    (mark_first s.mark (b ∷ text) c.requires.first ∙ no_second b text c.if-b-eq187.false))
