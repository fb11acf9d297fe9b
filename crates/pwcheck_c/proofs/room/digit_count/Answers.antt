use Rattle.std.proofs.Common.{◌<◌, ◌^◌, length, ap, arith}
use Rattle.phc.proofs.ValueBytes.{decimal_length}
use Rattle.pwcheck_c.proofs.room.digit_count.Goals as goal

pub push_decimal-requires : goal.push_decimal-requires
push_decimal-requires c =
    let small : c.args.number < 2 ^ 32 = c.ranges.number.fits in
    omega (arith, ap length c.new-text.ensures.none, decimal_length c.args.number small)
