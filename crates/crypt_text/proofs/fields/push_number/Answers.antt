use Rattle.std.proofs.Common.{arith, ap, lit<, ◌∙◌, ◌≤◌, ◌^◌, ◌<◌, ℕ, length}
use Rattle.std.specs.Fmt.{decimal}
use Rattle.std.proofs.lemmas.Fmt.{length-decimal-le}
use Rattle.std.proofs.lemmas.List.{length-append}
use Rattle.crypt_text.proofs.fields.push_number.Goals as goal

ten_digits : (n : ℕ) → n < 2 ^ 32 → length (decimal n) ≤ 10
ten_digits n small = length-decimal-le 10 n (lit< tt) (omega (arith, small)) (omega (arith, small))

pub push_decimal-requires : goal.push_decimal-requires
push_decimal-requires g c =
    let digits = ten_digits c.args.n c.ranges.n.fits in
    let room = c.requires.room in
    omega (arith, digits, room)

pub returns-clause-len : goal.returns-clause-len
returns-clause-len g c =
    let digits = ten_digits c.args.n c.ranges.n.fits in
    let all = ap length c.push_decimal.ensures.appended ∙ length-append c.args.text.now (decimal c.args.n) in
    omega (arith, digits, all)
