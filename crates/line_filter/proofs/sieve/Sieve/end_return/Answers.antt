use Rattle.std.proofs.Common.{◌∙◌, ◌∷◌, [], sym}
use Rattle.line_filter.specs.Steps.{shown_kept, waiting}
use Rattle.line_filter.proofs.Shown.{after_is, as_it_is, nothing_follows, nothing_read, return_read}
use Rattle.line_filter.proofs.sieve.Sieve.end_return.Goals as goal

pub returns-then-self-2-clause-shown : goal.returns-then-self-2-clause-shown
unfolding shown_kept waiting
returns-then-self-2-clause-shown c =
    let s = c.args.self.now in
    sym (nothing_follows c.keep.new.self)
    ∙ c.keep.ensures.shown []
    ∙ sym (after_is s [] (13 ∷ []) (return_read s.forms.crlf s.has_return [] c.if-self-2.true c.if-self.true))

pub returns-else-self-2-clause-shown : goal.returns-else-self-2-clause-shown
unfolding waiting
returns-else-self-2-clause-shown c =
    let s = c.args.self.now in
    sym (nothing_follows s) ∙ sym (after_is s [] [] (as_it_is s.forms.crlf s.has_return [] c.if-self-2.false))

pub returns-else-self-clause-shown : goal.returns-else-self-clause-shown
returns-else-self-clause-shown c =
    let s = c.args.self.now in
    sym (nothing_follows s) ∙ sym (after_is s [] [] (nothing_read s.forms.crlf s.has_return c.if-self.false))
