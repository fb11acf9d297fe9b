use Rattle.std.proofs.Common.{refl}
use Rattle.ldif_lines.specs.Steps.{shown, waiting}
use Rattle.ldif_lines.proofs.dump.Dump.clear.Goals as goal

pub returns-clause-shown : goal.returns-clause-shown
unfolding shown waiting
returns-clause-shown c text = rw (c.clear.ensures.none, c.requires.given) refl

pub returns-clause-waiting : goal.returns-clause-waiting
unfolding waiting
returns-clause-waiting c = rw c.clear.ensures.none refl
