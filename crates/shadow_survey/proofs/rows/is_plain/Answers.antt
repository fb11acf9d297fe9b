use Rattle.std.proofs.Common.{◌<◌, arith}
use Rattle.shadow_survey.proofs.PlainTable.{plain_at}
use Rattle.shadow_survey.proofs.rows.is_plain.Goals as goal

pub returns : goal.returns
returns c =
    let byte : c.args.b < 256 = omega (arith, c.ranges.b.fits) in
    plain_at c.args.b byte
