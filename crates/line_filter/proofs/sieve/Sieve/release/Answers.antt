use Rattle.std.proofs.Common.{◌∙◌, ◌∷◌, refl, sym, ap}
use Rattle.line_filter.specs.Forms.{without_returns}
use Rattle.line_filter.specs.Steps.{shown_after, shown_kept, waiting}
use Rattle.line_filter.specs.declared.forms.LineForms.{LineForms}
use Rattle.line_filter.proofs.Shown.{after_is, read_on, return_read}
use Rattle.line_filter.proofs.Shown.{return_stays}
use Rattle.line_filter.proofs.sieve.Sieve.release.Goals as goal

pub returns-then-next-ne10-clause-shown : goal.returns-then-next-ne10-clause-shown
unfolding shown_kept waiting
returns-then-next-ne10-clause-shown c text =
    let s = c.args.self.now in
    let now = c.keep.new.self in
    let next = c.args.next in
    after_is now (next ∷ text) (without_returns (next ∷ text))
    (read_on now.forms.crlf now.has_return (next ∷ text) (ap (λ (f : LineForms). f.crlf) c.keep.ensures.forms ∙ c.requires.crlf)
    c.keep.ensures.has_return)
    ∙ c.keep.ensures.shown (without_returns (next ∷ text))
    ∙ sym (after_is s (next ∷ text) (13 ∷ without_returns (next ∷ text))
    (return_read s.forms.crlf s.has_return (next ∷ text) c.requires.crlf c.if-self.true
    ∙ return_stays next text c.if-next-ne10.true))

pub returns-else-next-ne10-clause-shown : goal.returns-else-next-ne10-clause-shown
unfolding shown_after shown_kept waiting
returns-else-next-ne10-clause-shown c text =
    let on = c.requires.crlf in rw (on, c.if-self.true, c.if-next-ne10.false) refl
