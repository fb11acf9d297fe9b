use Rattle.std.proofs.Common.{arith, lit<, ◌≤◌, ◌^◌, ◌<◌, length}
use Rattle.std.specs.Fmt.{decimal}
use Rattle.std.proofs.lemmas.Fmt.{length-decimal-le}
use Rattle.shadow_survey.proofs.cells.push_number.Goals as goal

pub push_decimal-requires : goal.push_decimal-requires
push_decimal-requires c =
    let small : c.args.n < 2 ^ 64 = c.ranges.n.fits in
    let digits : length (decimal c.args.n) ≤ 20 = length-decimal-le 20 c.args.n (lit< tt) (omega (arith, small)) small in
    let room = c.requires.room in
    omega (arith, digits, room)
