use Rattle.base64ct.proofs.Shifts.{joined_low}
use Rattle.base64ct.proofs.blocks.joined_low.Goals as goal

pub returns : goal.returns
returns c =
    joined_low c.args.v c.args.w c.args.x c.args.y c.join_values-n.result c.requires.v c.requires.w c.requires.x
    c.requires.y c.join_values-n.ensures
