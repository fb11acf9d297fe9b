-- The shifts that make six-bit values of bytes and bytes of values.
use Rattle.std.proofs.Common.{◌≡◌, ℕ, zero, suc, slice_index, w32, ◌+◌, ◌*◌, ◌/◌, ◌%◌, ◌^◌, ◌<◌, true, false, List, []}
use Rattle.std.proofs.Common.{◌∷◌, bit_and, bit_or, refl, ◌∙◌, arith}
use Rattle.std.specs.Int.{to_le_bytes}
use Rattle.std.proofs.lemmas.Nat.{and_mask, or_shifted, or_comm, le_bytes_4}
use Rattle.base64ct.specs.Encoding.{groups, whole_bytes, EachBelow}
use Rattle.base64ct.proofs.Sextets.{cons_equal, groups-three, groups-nil, whole_bytes-four, whole_bytes-nil}

-- high bits above low ones
or_sum : (n high low k : ℕ) → n ≡ high * 2 ^ k → low < 2 ^ k → bit_or n low ≡ n + low
or_sum n high low k e lt = rw e (or_shifted high k low lt)

mask : (n : ℕ) → bit_and n 63 ≡ n % 64
mask n = and_mask n 6

-- four bytes joined to a word, the first lowest
joined : (v y1 y2 y3 w x z : ℕ) → v < 64 → w < 64 → x < 64 → y1 ≡ w * 256 → y2 ≡ x * 65536 → y3 ≡ z * 16777216
    → bit_or (bit_or (bit_or v y1) y2) y3 ≡ v + y1 + y2 + y3
joined v y1 y2 y3 w x z lv lw lx e1 e2 e3 =
    let first : bit_or v y1 ≡ y1 + v = or_comm v y1 ∙ or_sum y1 w v 8 e1 (omega arith) in
    let second : bit_or (bit_or v y1) y2 ≡ y2 + bit_or v y1 =
    or_comm (bit_or v y1) y2 ∙ or_sum y2 x (bit_or v y1) 16 e2 (omega arith) in
    let third : bit_or (bit_or (bit_or v y1) y2) y3 ≡ y3 + bit_or (bit_or v y1) y2 =
    or_comm (bit_or (bit_or v y1) y2) y3 ∙ or_sum y3 z (bit_or (bit_or v y1) y2) 24 e3 (omega arith) in
    omega (arith, first, second, third)

-- three bytes joined to a number, the first highest
number_of : (a b c : ℕ) → a < 256 → b < 256 → c < 256
    → bit_or (bit_or (a * 65536 % 4294967296) (b * 256 % 4294967296)) c ≡ a * 65536 + b * 256 + c
number_of a b c la lb lc =
    let first = or_sum (a * 65536 % 4294967296) a (b * 256 % 4294967296) 16 (omega arith) (omega arith) in
    let second = or_sum (bit_or (a * 65536 % 4294967296) (b * 256 % 4294967296)) (a * 256 + b) c 8
    (omega (arith, first)) (omega arith) in
    omega (arith, first, second)

-- the bytes of a word of four values
values_written : (v w x y n : ℕ) → v < 64 → w < 64 → x < 64 → y < 64 → n ≡ v + w * 256 + x * 65536 + y * 16777216
    → to_le_bytes w32 n ≡ v ∷ w ∷ x ∷ y ∷ []
values_written v w x y n lv lw lx ly e = le_bytes_4 (v ∷ w ∷ x ∷ y ∷ []) n refl below e
  where
    below : (i : ℕ) → slice_index (v ∷ w ∷ x ∷ y ∷ []) i < 256
    below zero = omega arith
    below (suc zero) = omega arith
    below (suc (suc zero)) = omega arith
    below (suc (suc (suc zero))) = omega arith
    below (suc (suc (suc (suc i)))) = omega arith

-- the values of a number of three bytes, the high bits first and the low bits first, as a word
pub values_high : (a b c : ℕ) → a < 256 → b < 256 → c < 256
    → let n = bit_or (bit_or (a * 65536 % 4294967296) (b * 256 % 4294967296)) c in
    to_le_bytes w32 (bit_or
    (bit_or (bit_or (n / 262144) (bit_and (n / 4096) 63 * 256 % 4294967296))
    (bit_and (n / 64) 63 * 65536 % 4294967296)) (bit_and n 63 * 16777216 % 4294967296))
    ≡ groups false (a ∷ b ∷ c ∷ [])
values_high a b c la lb lc =
    let n : ℕ = bit_or (bit_or (a * 65536 % 4294967296) (b * 256 % 4294967296)) c in
    let is : n ≡ a * 65536 + b * 256 + c = number_of a b c la lb lc in
    let m1 = mask (n / 4096) in
    let m2 = mask (n / 64) in
    let m3 = mask n in
    let whole = joined (n / 262144) (bit_and (n / 4096) 63 * 256 % 4294967296)
    (bit_and (n / 64) 63 * 65536 % 4294967296) (bit_and n 63 * 16777216 % 4294967296) (n / 4096 % 64) (n / 64 % 64)
    (n % 64)
    (omega arith) (omega arith) (omega arith) (omega arith) (omega arith) (omega arith) in
    rw (groups-three false a b c [] la lb lc, groups-nil)
    (values_written (a / 4) (a % 4 * 16 + b / 16) (b % 16 * 4 + c / 64) (c % 64) _ (omega arith) (omega arith)
    (omega arith) (omega arith) (omega (arith, whole, is, m1, m2, m3)))

pub values_low : (a b c : ℕ) → a < 256 → b < 256 → c < 256
    → let n = bit_or (bit_or (c * 65536 % 4294967296) (b * 256 % 4294967296)) a in
    to_le_bytes w32 (bit_or
    (bit_or (bit_or (bit_and n 63) (bit_and (n / 64) 63 * 256 % 4294967296))
    (bit_and (n / 4096) 63 * 65536 % 4294967296)) (n / 262144 * 16777216 % 4294967296))
    ≡ groups true (a ∷ b ∷ c ∷ [])
values_low a b c la lb lc =
    let n : ℕ = bit_or (bit_or (c * 65536 % 4294967296) (b * 256 % 4294967296)) a in
    let is : n ≡ c * 65536 + b * 256 + a = number_of c b a lc lb la in
    let m1 = mask (n / 4096) in
    let m2 = mask (n / 64) in
    let m3 = mask n in
    let whole = joined (bit_and n 63) (bit_and (n / 64) 63 * 256 % 4294967296)
    (bit_and (n / 4096) 63 * 65536 % 4294967296) (n / 262144 * 16777216 % 4294967296) (n / 64 % 64) (n / 4096 % 64)
    (n / 262144)
    (omega arith) (omega arith) (omega arith) (omega arith) (omega arith) (omega arith) in
    rw (groups-three true a b c [] la lb lc, groups-nil)
    (values_written (a % 64) (a / 64 + b % 16 * 4) (b / 16 + c % 4 * 16) (c / 4) _ (omega arith) (omega arith)
    (omega arith) (omega arith) (omega (arith, whole, is, m1, m2, m3)))

pub bytes_high : (v w x y : ℕ) → v < 64 → w < 64 → x < 64 → y < 64
    → (bit_or (v * 4 % 256) (w / 16) ∷ bit_or (w * 16 % 256) (x / 4) ∷ bit_or (x * 64 % 256) y ∷ [])
    ≡ whole_bytes false (v ∷ w ∷ x ∷ y ∷ [])
bytes_high v w x y lv lw lx ly =
    let first = or_sum (v * 4 % 256) v (w / 16) 2 (omega arith) (omega arith) in
    let second = or_sum (w * 16 % 256) (w % 16) (x / 4) 4 (omega arith) (omega arith) in
    let third = or_sum (x * 64 % 256) (x % 4) y 6 (omega arith) (omega arith) in
    rw (whole_bytes-four false v w x y [] lv lw lx ly, whole_bytes-nil, first, second, third)
    (cons_equal (omega arith) (cons_equal (omega arith) (cons_equal (omega arith) refl)))

pub bytes_low : (v w x y : ℕ) → v < 64 → w < 64 → x < 64 → y < 64
    → (bit_or v (w * 64 % 256) ∷ bit_or (w / 4) (x * 16 % 256) ∷ bit_or (x / 16) (y * 4 % 256) ∷ [])
    ≡ whole_bytes true (v ∷ w ∷ x ∷ y ∷ [])
bytes_low v w x y lv lw lx ly =
    let first = or_comm v (w * 64 % 256) ∙ or_sum (w * 64 % 256) (w % 4) v 6 (omega arith) (omega arith) in
    let second = or_comm (w / 4) (x * 16 % 256)
    ∙ or_sum (x * 16 % 256) (x % 16) (w / 4) 4 (omega arith) (omega arith) in
    let third = or_comm (x / 16) (y * 4 % 256) ∙ or_sum (y * 4 % 256) y (x / 16) 2 (omega arith) (omega arith) in
    rw (whole_bytes-four true v w x y [] lv lw lx ly, whole_bytes-nil, first, second, third)
    (cons_equal (omega arith) (cons_equal (omega arith) (cons_equal (omega arith) refl)))

-- four values joined to a number, the first highest
pub join_values : (v w x y : ℕ) → v < 64 → w < 64 → x < 64 → y < 64
    → bit_or (bit_or (bit_or (v * 262144 % 4294967296) (w * 4096 % 4294967296)) (x * 64 % 4294967296)) y
    ≡ v * 262144 + w * 4096 + x * 64 + y
join_values v w x y lv lw lx ly =
    let high : ℕ = v * 262144 % 4294967296 in
    let first = or_sum high v (w * 4096 % 4294967296) 18 (omega arith) (omega arith) in
    let second = or_sum (bit_or high (w * 4096 % 4294967296)) (v * 64 + w) (x * 64 % 4294967296) 12
    (omega (arith, first)) (omega arith) in
    let third = or_sum (bit_or (bit_or high (w * 4096 % 4294967296)) (x * 64 % 4294967296)) (v * 4096 + w * 64 + x) y 6
    (omega (arith, first, second)) (omega arith) in
    omega (arith, first, second, third)

pub joined_high : (v w x y n : ℕ) → v < 64 → w < 64 → x < 64 → y < 64 → n ≡ v * 262144 + w * 4096 + x * 64 + y
    → (bit_and (n / 65536) 255 ∷ bit_and (n / 256) 255 ∷ bit_and n 255 ∷ []) ≡ whole_bytes false (v ∷ w ∷ x ∷ y ∷ [])
joined_high v w x y n lv lw lx ly is =
    let first = and_mask (n / 65536) 8 in
    let second = and_mask (n / 256) 8 in
    let third = and_mask n 8 in
    rw (whole_bytes-four false v w x y [] lv lw lx ly, whole_bytes-nil)
    (cons_equal (omega (arith, is, first)) (cons_equal (omega (arith, is, second))
    (cons_equal (omega (arith, is, third)) refl)))

pub joined_low : (v w x y n : ℕ) → v < 64 → w < 64 → x < 64 → y < 64 → n ≡ y * 262144 + x * 4096 + w * 64 + v
    → (bit_and n 255 ∷ bit_and (n / 256) 255 ∷ bit_and (n / 65536) 255 ∷ []) ≡ whole_bytes true (v ∷ w ∷ x ∷ y ∷ [])
joined_low v w x y n lv lw lx ly is =
    let first = and_mask n 8 in
    let second = and_mask (n / 256) 8 in
    let third = and_mask (n / 65536) 8 in
    rw (whole_bytes-four true v w x y [] lv lw lx ly, whole_bytes-nil)
    (cons_equal (omega (arith, is, first)) (cons_equal (omega (arith, is, second))
    (cons_equal (omega (arith, is, third)) refl)))

pub same-below : (xs ys : List ℕ) → xs ≡ ys → EachBelow 64 ys → EachBelow 64 xs
same-below xs ys e h i = rw e (h i)
