use Rattle.std.proofs.Common.{refl}
use Rattle.line_filter.specs.MappedSteps.{mapped_after, waiting_of}
use Rattle.line_filter.proofs.mapping.Mapping.clear.Goals as goal

pub returns-clause-shown : goal.returns-clause-shown
unfolding mapped_after waiting_of
returns-clause-shown c rule text = rw (c.new-self.ensures.none, c.requires.given) refl

pub returns-clause-waiting : goal.returns-clause-waiting
unfolding waiting_of
returns-clause-waiting c = rw c.new-self.ensures.none refl
