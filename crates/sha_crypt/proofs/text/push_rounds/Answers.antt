use Rattle.std.proofs.Common.{arith, lit<, ◌≤◌, ◌^◌, ◌<◌, length}
use Rattle.std.specs.Fmt.{decimal}
use Rattle.std.proofs.lemmas.Fmt.{length-decimal-le}
use Rattle.sha_crypt.proofs.text.push_rounds.Goals as goal

pub push_decimal-requires : goal.push_decimal-requires
push_decimal-requires g c =
    let small : c.args.rounds < 2 ^ 64 = c.ranges.rounds.fits in
    let digits : length (decimal c.args.rounds) ≤ 20 =
    length-decimal-le 20 c.args.rounds (lit< tt) (omega (arith, small)) small in
    omega (arith, digits)
