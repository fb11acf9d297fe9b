use Rattle.base64ct.proofs.StepLaws.{step_encoded}
use Rattle.base64ct.proofs.laws.encode_steps.Goals as goal

pub returns : goal.returns
returns g c = step_encoded g.E.Alphabet.alphabet g.E.Alphabet.steps g.met.E.Alphabet.agrees c.args.v c.requires
