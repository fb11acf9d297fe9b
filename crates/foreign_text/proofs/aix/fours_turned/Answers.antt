use Rattle.std.proofs.Common.{arith}
use Rattle.foreign_text.specs.Aix.{fours_turned}
use Rattle.foreign_text.proofs.Fours.{all_turned}
use Rattle.foreign_text.proofs.aix.fours_turned.Goals as goal

pub returns : goal.returns
returns c = record {
  turned = all_turned c.loop-key.turned c.loop-key.key.now (fours_turned c.args.key.now) (omega (arith, c.loop-key-test.false)) c.loop-key.invariant.0;
}
