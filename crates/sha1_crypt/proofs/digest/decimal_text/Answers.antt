use Rattle.std.proofs.Common.{arith, ap, lit<, ◌≤◌, ◌^◌, ◌<◌, length}
use Rattle.std.specs.Fmt.{decimal}
use Rattle.std.proofs.lemmas.Fmt.{length-decimal-le}
use Rattle.sha1_crypt.proofs.digest.decimal_text.Goals as goal

pub push_decimal-requires : goal.push_decimal-requires
push_decimal-requires c =
    let small : c.args.n < 2 ^ 32 = c.ranges.n.fits in
    let digits : length (decimal c.args.n) ≤ 20 =
    length-decimal-le 20 c.args.n (lit< tt) (omega (arith, small)) (omega (arith, small)) in
    omega (arith, digits, ap length c.new-text.ensures.none)
