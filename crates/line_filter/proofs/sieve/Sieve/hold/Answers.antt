use Rattle.std.proofs.Common.{◌∙◌, ◌∷◌, refl, sym, ap}
use Rattle.line_filter.specs.Forms.{without_returns}
use Rattle.line_filter.specs.Steps.{shown_after, shown_kept, waiting}
use Rattle.line_filter.specs.declared.forms.LineForms.{LineForms}
use Rattle.line_filter.proofs.Shown.{after_is, read_on}
use Rattle.line_filter.proofs.Shown.{no_return}
use Rattle.line_filter.proofs.sieve.Sieve.hold.Goals as goal

pub returns-then-b-eq13-clause-shown : goal.returns-then-b-eq13-clause-shown
unfolding shown_after shown_kept waiting
returns-then-b-eq13-clause-shown c text =
    let on = c.requires.crlf in let none = c.requires.has_return in rw (on, none, c.if-b-eq13.true) refl

pub returns-else-b-eq13-clause-shown : goal.returns-else-b-eq13-clause-shown
returns-else-b-eq13-clause-shown c text =
    let s = c.args.self.now in
    let now = c.keep.new.self in
    let b = c.args.b in
    after_is now text (without_returns text)
    (read_on now.forms.crlf now.has_return text (ap (λ (f : LineForms). f.crlf) c.keep.ensures.forms ∙ c.requires.crlf)
    (c.keep.ensures.has_return ∙ c.requires.has_return))
    ∙ c.keep.ensures.shown (without_returns text)
    ∙ sym (after_is s (b ∷ text) (b ∷ without_returns text)
    (read_on s.forms.crlf s.has_return (b ∷ text) c.requires.crlf c.requires.has_return
    ∙ no_return b text c.if-b-eq13.false))
