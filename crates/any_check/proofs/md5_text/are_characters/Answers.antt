use Rattle.any_check.proofs.CryptLanes.{all_from_mask}
use Rattle.any_check.proofs.md5_text.are_characters.Goals as goal

pub returns : goal.returns
returns c = record {
  characters = λ all. all_from_mask c.args.bytes.now c.args.i c.requires.room
      (λ k. (c.type_inv.bytes k).fits) all;
}
