use Rattle.std.proofs.Common.{rules, drop, ◌++◌, ◌∙◌}
use Rattle.line_filter.specs.Met.{mark_with}
use Rattle.line_filter.proofs.Noticing.{mark_settled}
use Rattle.line_filter.proofs.noticed.Noticing.look_at.Goals as goal

pub returns-then-eq-clause-marks : goal.returns-then-eq-clause-marks
unfolding mark_with
returns-then-eq-clause-marks c text =
    let s = c.loop-b.self in
    mark_settled s.mark s.has_mark text (drop c.loop-b.b-index c.args.bytes.now ++ text) (search rules)
    ∙ c.loop-b.invariant.marks text
