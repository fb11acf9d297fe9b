use Rattle.std.proofs.Common.{arith, lit<, refl, ◌≡◌, ◌≤◌, ◌^◌, ◌<◌, length}
use Rattle.std.specs.Fmt.{decimal}
use Rattle.std.proofs.lemmas.Fmt.{length-decimal-le}
use Rattle.line_filter.proofs.met.passed_message.Goals as goal

pub push_decimal-requires : goal.push_decimal-requires
push_decimal-requires c =
    let n = c.args.count in
    let small : n < 2 ^ 64 = c.ranges.count.fits in
    let digits : length (decimal n) ≤ 20 = length-decimal-le 20 n (lit< tt) (omega (arith, small)) small in
    let none : length c.new-words.result ≡ 0 = rw c.new-words.ensures.none refl in
    omega (arith, digits, none)
