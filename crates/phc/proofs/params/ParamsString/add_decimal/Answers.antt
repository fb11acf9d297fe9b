use Rattle.std.proofs.Common.{rules, arith, ap, sym, ◌≡◌, ◌<◌, ◌^◌, length}
use Rattle.std.specs.Fmt.{decimal}
use Rattle.phc.proofs.Characters.{decimal_digits}
use Rattle.phc.proofs.ValueBytes.{decimal_length}
use Rattle.phc.proofs.params.ParamsString.add_decimal.Goals as goal

pub push_decimal-requires : goal.push_decimal-requires
push_decimal-requires c =
    let small : c.args.value < 2 ^ 32 = c.ranges.value.fits in
    let none : length c.new-digits.result ≡ 0 = search rules in
    let same : c.from.result ≡ c.args.value = search rules in
    omega (arith, ap (λ n. length (decimal n)) same, decimal_length c.args.value small, none)

pub of_digits-requires : goal.of_digits-requires
of_digits-requires c =
    let small : c.args.value < 2 ^ 32 = c.ranges.value.fits in
    let same : c.from.result ≡ c.args.value = search rules in
    let is : c.push_decimal.new.self ≡ decimal c.args.value = rw (sym same) (search rules) in
    rw is (decimal_digits c.args.value small)
