use Rattle.std.proofs.Common.{◌∙◌}
use Rattle.line_filter.proofs.Shown.{all_ready}
use Rattle.line_filter.proofs.sieve.Sieve.end.Goals as goal

pub returns-clause-shown : goal.returns-clause-shown
returns-clause-shown c =
    all_ready c.end_return.new.self c.end_return.ensures.has_return (c.end_return.ensures.mark ∙ c.end_mark.ensures.past)
    ∙ c.end_return.ensures.shown ∙ c.end_mark.ensures.shown
