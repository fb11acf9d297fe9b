use Rattle.base64ct.proofs.Shifts.{join_values}
use Rattle.base64ct.proofs.blocks.join_values.Goals as goal

pub returns : goal.returns
returns c =
    rw (c.from.ensures, c.from-2.ensures, c.from-3.ensures, c.from-4.ensures)
    (join_values c.args.v c.args.w c.args.x c.args.y c.requires.v c.requires.w c.requires.x c.requires.y)
