use Rattle.std.proofs.Common.{◌<◌, ◌^◌, length, ap, arith}
use Rattle.std.specs.Fmt.{decimal}
use Rattle.std.proofs.lemmas.List.{length-append}
use Rattle.phc.proofs.ValueBytes.{decimal_length}
use Rattle.foreign_text.proofs.scram.scram_front.Goals as goal

pub push_decimal-requires : goal.push_decimal-requires
push_decimal-requires c =
    let small : c.args.rounds < 2 ^ 32 = c.ranges.rounds.fits in
    omega (arith, ap length c.from_slice-text.ensures.bytes, c.as_bytes.ensures.len, c.scram_sign.ensures.len, decimal_length c.args.rounds small)

pub returns-clause-len : goal.returns-clause-len
returns-clause-len c =
    let small : c.args.rounds < 2 ^ 32 = c.ranges.rounds.fits in
    omega (
      arith,
      ap length c.push_decimal.ensures.appended,
      ap length c.from_slice-text.ensures.bytes,
      c.as_bytes.ensures.len,
      c.scram_sign.ensures.len,
      length-append c.from_slice-text.result (decimal c.args.rounds),
      decimal_length c.args.rounds small,
    )
