use Rattle.std.proofs.Common.{ap, ◌∙◌, ◌+◌, ◌-◌, ◌^◌, ℕ}
use Rattle.std.specs.Prelude.{min}
use Rattle.line_io.specs.Lines.{is_feed}
use Rattle.line_filter.specs.Passed.{passed_from, passed_with}
use Rattle.line_filter.proofs.Passed.{next_passed}
use Rattle.line_filter.proofs.passing.Passing.step.Goals as goal

pub returns : goal.returns
unfolding passed_with
returns c = record {
  count = λ text.
      let s = c.args.self.now in
      ap (λ (n : ℕ). min (n + passed_from (is_feed c.args.b) text) (2 ^ 64 - 1)) c.one_more_at-self.ensures.count
      ∙ next_passed s.count s.at_start c.args.b text;
}
