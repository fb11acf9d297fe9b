use Rattle.std.proofs.Common.{rules, arith, ◌≡◌, ◌≤◌, length}
use Rattle.phc.proofs.ValueBytes.{digits_utf8, digits_value}
use Rattle.phc.proofs.value.Value.of_digits.Goals as goal

pub from_utf8_unchecked-requires : goal.from_utf8_unchecked-requires
from_utf8_unchecked-requires c = rw c.as_slice.ensures.value (digits_utf8 _ c.requires)

pub invariant_of-result : goal.invariant_of-result
invariant_of-result c =
    let same : c.from_utf8_unchecked.result.now ≡ c.args.digits.now = search rules in
    let short : length c.args.digits.now ≤ 10 = search rules in
    record { valid = rw same (digits_value c.args.digits.now c.requires (omega (arith, short))) }
