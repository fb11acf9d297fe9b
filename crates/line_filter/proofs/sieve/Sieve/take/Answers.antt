use Rattle.std.proofs.Common.{◌∙◌, ◌∷◌, sym, ap}
use Rattle.line_filter.specs.declared.forms.LineForms.{LineForms}
use Rattle.line_filter.proofs.Shown.{after_is, as_it_is}
use Rattle.line_filter.proofs.sieve.Sieve.take.Goals as goal

pub returns-else-self-clause-shown : goal.returns-else-self-clause-shown
returns-else-self-clause-shown c text =
    let s = c.args.self.now in
    let now = c.keep.new.self in
    after_is now text text
    (as_it_is now.forms.crlf now.has_return text (ap (λ (f : LineForms). f.crlf) c.keep.ensures.forms ∙ c.if-self.false))
    ∙ c.keep.ensures.shown text
    ∙ sym (after_is s (c.args.b ∷ text) (c.args.b ∷ text)
    (as_it_is s.forms.crlf s.has_return (c.args.b ∷ text) c.if-self.false))
