use Rattle.std.proofs.Common.{arith}
use Rattle.base64ct.proofs.StepLaws.{step_decoded}
use Rattle.base64ct.proofs.laws.decode_steps.Goals as goal

pub returns : goal.returns
returns g c = step_decoded g.E.Alphabet.alphabet g.E.Alphabet.steps g.met.E.Alphabet.agrees c.args.c
    (omega (arith, c.ranges.c.fits))
