-- The definitions computed on the numbers of `subtle`'s documentation, and at the ends of a width.
use Rattle.std.specs.Prelude.{◌≡◌, ◌-◌, ◌^◌}
use Rattle.std.proofs.Common.{refl}
use Rattle.subtle.specs.Smearing.{greater_bit}

documented_not_greater : greater_bit 8 13 42 ≡ 0
documented_not_greater = refl

documented_greater : greater_bit 8 42 13 ≡ 1
documented_greater = refl

documented_equal : greater_bit 8 13 13 ≡ 0
documented_equal = refl

highest_bit_greater : greater_bit 8 128 127 ≡ 1
highest_bit_greater = refl

all_bits_greater : greater_bit 128 (2 ^ 128 - 1) (2 ^ 128 - 2) ≡ 1
all_bits_greater = refl

zero_not_greater : greater_bit 64 0 (2 ^ 64 - 1) ≡ 0
zero_not_greater = refl
