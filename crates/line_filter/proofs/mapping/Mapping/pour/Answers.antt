use Rattle.std.proofs.Common.{◌≡◌, ◌∙◌, ap, arith, drop, sym, ℕ}
use Rattle.line_filter.specs.MappedSteps.{waiting_of}
use Rattle.line_filter.proofs.Placed.{some_ready}
use Rattle.line_filter.proofs.mapping.Mapping.pour.Goals as goal

pub returns-then-len-gt-FULL-clause-all : goal.returns-then-len-gt-FULL-clause-all
unfolding waiting_of
returns-then-len-gt-FULL-clause-all g c none =
    let ready = c.loop-i.self.ready in
    let all : drop c.loop-i.self.given ready ≡ ready = ap (λ (n : ℕ). drop n ready) c.loop-i.invariant.given in
    absurd (some_ready ready (omega (arith, c.len.ensures.value, c.if-len-gt-FULL.true)) (sym all ∙ none))
