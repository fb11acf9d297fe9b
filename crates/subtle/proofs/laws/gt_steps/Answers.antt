use Rattle.subtle.proofs.GreaterSteps.{tells_greater}
use Rattle.subtle.proofs.laws.gt_steps.Goals as goal

pub returns : goal.returns
returns c = tells_greater c.args.width c.args.a c.args.b c.requires.width c.requires.a_fits c.requires.b_fits
