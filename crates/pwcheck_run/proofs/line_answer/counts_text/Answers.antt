use Rattle.std.proofs.Common.{arith, lit<, ap, ◌≡◌, ◌≤◌, ◌^◌, ◌<◌, length}
use Rattle.std.specs.Fmt.{decimal}
use Rattle.std.proofs.lemmas.Fmt.{length-decimal-le}
use Rattle.pwcheck_run.proofs.line_answer.counts_text.Goals as goal

pub push_decimal-requires : goal.push_decimal-requires
push_decimal-requires c =
    let small : c.args.looks < 2 ^ 64 = c.ranges.looks.fits in
    let digits : length (decimal c.args.looks) ≤ 20 =
    length-decimal-le 20 c.args.looks (lit< tt) (omega (arith, small)) small in
    let empty : length c.new-text.result ≡ 0 = ap length c.new-text.ensures.none in
    (omega arith, omega (arith, digits, empty, c.push_all.ensures.length))

pub push_decimal-requires-2 : goal.push_decimal-requires-2
push_decimal-requires-2 c =
    let small : c.args.sames < 2 ^ 64 = c.ranges.sames.fits in
    let digits : length (decimal c.args.sames) ≤ 20 =
    length-decimal-le 20 c.args.sames (lit< tt) (omega (arith, small)) small in
    let empty : length c.new-text.result ≡ 0 = ap length c.new-text.ensures.none in (
      omega arith,
      omega (
        arith,
        digits,
        empty,
        c.push_all.ensures.length,
        c.push_decimal.ensures.length,
        c.push_all-2.ensures.length,
      ),
    )
