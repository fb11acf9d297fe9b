use Rattle.std.proofs.Common.{◌∙◌}
use Rattle.line_filter.specs.Passed.{passed_with}
use Rattle.line_filter.proofs.Passed.{passed_met}
use Rattle.line_filter.proofs.passing.Passing.total.Goals as goal

pub returns : goal.returns
unfolding passed_with
returns c = record {
  count =
      let s = c.args.self.now in
      c.as_it_is.ensures.same ∙ passed_met s.count s.at_start c.as_it_is.ensures.small;
}
