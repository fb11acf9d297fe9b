use Rattle.std.proofs.Common.{refl}
use Rattle.line_filter.specs.Steps.{shown_kept, waiting}
use Rattle.line_filter.proofs.Shown.{kept_given}
use Rattle.line_filter.proofs.sieve.Sieve.keep.Goals as goal

pub returns-then-is_given-clause-shown : goal.returns-then-is_given-clause-shown
unfolding waiting
returns-then-is_given-clause-shown c text =
    kept_given c.args.self.now c.give.new.self c.args.b text c.give.ensures.forms c.give.ensures.given
    (rw c.give.ensures.place (rw c.if-is_given.true at c.step-place.ensures text))

pub returns-else-is_given-clause-shown : goal.returns-else-is_given-clause-shown
unfolding shown_kept waiting
returns-else-is_given-clause-shown c text =
    let kept = rw c.if-is_given.false at c.step-place.ensures text in rw kept refl
