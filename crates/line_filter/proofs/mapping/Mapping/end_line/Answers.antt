use Rattle.std.proofs.Common.{◌∙◌, ◌∷◌, ◌++◌, [], ap, List, ℕ}
use Rattle.line_filter.specs.Mapped.{mapped_line}
use Rattle.line_filter.specs.MappedSteps.{waiting_of}
use Rattle.line_filter.proofs.mapping.Mapping.end_line.Goals as goal

pub returns-clause-waiting : goal.returns-clause-waiting
unfolding waiting_of
returns-clause-waiting g c =
    c.give.ensures.waiting
    ∙ ap (λ (line : List ℕ). waiting_of c.args.self.now ++ (line ++ 10 ∷ []))
    (c.as_slice-2.ensures.value ∙ c.mapped_line-line.ensures.line
    ∙ ap (mapped_line (g.R.LineRule.rule c.args.rule.now)) c.as_slice.ensures.value)
