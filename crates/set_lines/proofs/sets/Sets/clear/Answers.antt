use Rattle.std.proofs.Common.{refl}
use Rattle.set_lines.specs.Steps.{shown, waiting}
use Rattle.set_lines.proofs.sets.Sets.clear.Goals as goal

pub returns-clause-shown : goal.returns-clause-shown
unfolding shown waiting
returns-clause-shown c text = rw (c.new-self.ensures.none, c.requires.given) refl

pub returns-clause-waiting : goal.returns-clause-waiting
unfolding waiting
returns-clause-waiting c = rw c.new-self.ensures.none refl
