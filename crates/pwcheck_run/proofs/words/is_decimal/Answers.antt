use Rattle.std.proofs.Common.{rules, arith, lit<, ◌≡◌, ◌^◌, ◌<◌, length}
use Rattle.std.proofs.lemmas.Fmt.{length-decimal-le}
use Rattle.pwcheck_run.proofs.words.is_decimal.Goals as goal

pub push_decimal-requires : goal.push_decimal-requires
push_decimal-requires c =
    let small : c.args.n < 2 ^ 64 = c.ranges.n.fits in
    let none : length c.new-digits.result ≡ 0 = search rules in
    (omega arith, omega (arith, length-decimal-le 20 c.args.n (lit< tt) (omega (arith, small)) small, none))
