use Rattle.std.proofs.Common.{◌∙◌, ◌∷◌, ◌++◌, [], ap, append_assoc, sym, List, ℕ}
use Rattle.line_filter.specs.Mapped.{mapped_line, mapped_text}
use Rattle.line_filter.specs.MappedSteps.{mapped_after, waiting_of}
use Rattle.line_filter.proofs.Placed.{at_feed}
use Rattle.line_filter.proofs.mapping.Mapping.step.Goals as goal

pub returns-then-b-eq10-clause-shown : goal.returns-then-b-eq10-clause-shown
unfolding mapped_after
returns-then-b-eq10-clause-shown g c text =
    let rule = g.R.LineRule.rule c.args.rule.now in
    let m = c.args.self.now in
    let ended = mapped_line rule m.line ++ 10 ∷ [] in
    ap (λ (w : List ℕ). w ++ mapped_text rule (c.end_line.new.self.line ++ text)) c.end_line.ensures.waiting
    ∙ ap (λ (line : List ℕ). (waiting_of m ++ ended) ++ mapped_text rule (line ++ text)) c.end_line.ensures.line
    ∙ append_assoc (waiting_of m) ended (mapped_text rule text)
    ∙ ap (λ (xs : List ℕ). waiting_of m ++ xs) (sym (at_feed rule m.line text m.free))
    ∙ ap (λ (b : ℕ). waiting_of m ++ mapped_text rule (m.line ++ b ∷ text)) (sym c.if-b-eq10.true)
