use Rattle.std.proofs.Common.{ap, zero-add, ◌∙◌, ◌-◌, ◌^◌, ℕ, true}
use Rattle.std.specs.Prelude.{min}
use Rattle.line_filter.specs.Passed.{passed_from, passed_with}
use Rattle.line_filter.proofs.Passed.{by_lines}
use Rattle.line_filter.proofs.passing.Passing.new.Goals as goal

pub returns : goal.returns
unfolding passed_with
returns c = record {
  count = λ text. ap (λ (n : ℕ). min n (2 ^ 64 - 1)) (zero-add (passed_from true text) ∙ by_lines text);
}
