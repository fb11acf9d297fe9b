use Rattle.std.proofs.Common.{◌<◌, ◌^◌, length, ap, arith}
use Rattle.std.specs.Fmt.{decimal}
use Rattle.std.proofs.lemmas.List.{length-append}
use Rattle.phc.proofs.ValueBytes.{decimal_length}
use Rattle.foreign_text.proofs.kdf.push_number.Goals as goal

pub push_decimal-requires : goal.push_decimal-requires
push_decimal-requires c =
    let small : c.args.number < 2 ^ 32 = c.ranges.number.fits in
    omega (arith, c.requires.few, c.requires.room, c.push_all.ensures.length, decimal_length c.args.number small)

pub returns-clause-len : goal.returns-clause-len
returns-clause-len c =
    let small : c.args.number < 2 ^ 32 = c.ranges.number.fits in
    omega (
      arith,
      ap length c.push_decimal.ensures.appended,
      c.push_all.ensures.length,
      length-append c.push_all.new.self (decimal c.args.number),
      decimal_length c.args.number small,
    )
