use Rattle.std.proofs.Common.{◌≡◌, ◌+◌, ◌-◌, arith}
use Rattle.pbkdf2_key.proofs.Putting.{put_block}
use Rattle.pbkdf2_key.proofs.derive.put_block.Goals as goal

pub returns : goal.returns
returns c =
    let width : c.args.at + c.min-count.result - c.args.at ≡ c.min-count.result = omega arith in
    record {
      front = rw (width, c.copy_from_slice.ensures.after)
          (put_block c.args.out.now c.args.block.now c.args.at c.requires.within c.min-count.result c.min-count.ensures);
    }
