use Rattle.std.proofs.Common.{refl, ap, ◌∙◌, ◌+◌, ◌^◌, ◌-◌, false}
use Rattle.std.specs.Prelude.{min}
use Rattle.line_filter.specs.Met.{count_returns, mark_with, returns_with}
use Rattle.line_filter.specs.Rests.{after_return}
use Rattle.line_filter.proofs.Noticing.{free_passed}
use Rattle.line_filter.proofs.noticed.Noticing.pass.Goals as goal

pub returns-clause-returns : goal.returns-clause-returns
unfolding returns_with
returns-clause-returns c text =
    let s = c.args.self.now in
    ap (λ n. min (n + count_returns (after_return false text)) (2 ^ 64 - 1)) c.one_more_after-self.ensures.count
    ∙ free_passed s.returns s.has_return c.args.first c.args.bytes.now text c.requires.first c.requires.some c.requires.free

pub returns-clause-marks : goal.returns-clause-marks
unfolding mark_with
returns-clause-marks c text = refl
