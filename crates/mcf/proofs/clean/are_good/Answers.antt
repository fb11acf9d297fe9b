use Rattle.mcf.proofs.GoodLanes.{good_from_mask}
use Rattle.mcf.proofs.clean.are_good.Goals as goal

pub returns : goal.returns
returns c = record {
  good = λ all. good_from_mask c.args.bytes.now c.args.i c.requires.room
      (λ k. (c.type_inv.bytes k).fits) all;
}
