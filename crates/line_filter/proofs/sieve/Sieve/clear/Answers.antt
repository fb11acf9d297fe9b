use Rattle.std.proofs.Common.{refl}
use Rattle.line_filter.specs.Steps.{shown, shown_after, shown_kept, waiting}
use Rattle.line_filter.proofs.sieve.Sieve.clear.Goals as goal

pub returns-clause-shown : goal.returns-clause-shown
unfolding shown shown_after shown_kept waiting
returns-clause-shown c text = rw (c.new-self.ensures.none, c.requires.given) refl

pub returns-clause-waiting : goal.returns-clause-waiting
unfolding waiting
returns-clause-waiting c = rw c.new-self.ensures.none refl
