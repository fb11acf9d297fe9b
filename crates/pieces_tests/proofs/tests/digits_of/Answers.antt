use Rattle.std.proofs.Common.{rules, arith, lit<, ◌≡◌, ◌^◌, ◌<◌, length}
use Rattle.std.proofs.lemmas.Fmt.{length-decimal-le}
use Rattle.pieces_tests.proofs.tests.digits_of.Goals as goal

pub push_decimal-requires : goal.push_decimal-requires
push_decimal-requires c =
    let small : c.args.number < 2 ^ 64 = c.ranges.number.fits in
    let none : length c.new-text.result ≡ 0 = search rules in
    (omega arith, omega (arith, length-decimal-le 20 c.args.number (lit< tt) (omega (arith, small)) small, none))
