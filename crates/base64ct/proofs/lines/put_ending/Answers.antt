use Rattle.std.proofs.Common.{arith, refl}
use Rattle.base64ct.proofs.LineWrites.{ending_put}
use Rattle.base64ct.proofs.lines.put_ending.Goals as goal

pub returns-in-len1-clause-written : goal.returns-in-len1-clause-written
returns-in-len1-clause-written c =
    ending_put c.args.out.now c.args.ending.now c.args.position _ (omega (arith, c.requires, c.in-len1.len_at_least))
    (omega (arith, c.in-len1.len_at_least, c.in-len1.len_below)) refl
