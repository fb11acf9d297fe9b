-- The parameters of texts `$7$` and `$y$` are characters of crypt's alphabet.
use Rattle.std.proofs.Common.{◌≡◌, ℕ, zero, suc, ◌+◌, ◌-◌, ◌/◌, ◌%◌, ◌^◌, ◌<◌, ◌≤◌, Bool, true, false, [], ◌∷◌, ◌++◌, refl, ap, ◌∙◌, arith}
use Rattle.std.specs.Prelude.{◌==◌, ◌&&◌, ◌||◌, nat_le, nat_lt, if◌then◌else◌}
use Rattle.std.specs.List.{list_all}
use Rattle.std.proofs.lemmas.Bool.Decides.{nat_tests}
use Rattle.std.proofs.Math.Bool.{or-true}
use Rattle.std.proofs.Math.Nat.{div-one}
use Rattle.pieces.specs.Characters.{is_crypt_character}
use Rattle.pieces.proofs.ByteTests.{all_append}
use Rattle.yescrypt_plain.specs.Numbers.{character, digits_text, five_text, number_text}
use Rattle.yescrypt_plain.specs.Params.{in_bounds, scrypt_in_bounds, scrypt_params_text, time_text, yescrypt_params_text}
use Rattle.yescrypt_plain.specs.declared.params.ScryptParams.{ScryptParams}
use Rattle.yescrypt_plain.specs.declared.params.YescryptParams.{YescryptParams}
use Rattle.yescrypt_plain.proofs.ParamFields.{bounds_of}
use Rattle.yescrypt_plain.proofs.ScryptParamFields.{scrypt_bounds_of}

-- ---- the three ranges

by_first : (c : ℕ) → 46 ≤ c → c ≤ 57 → is_crypt_character c ≡ true
by_first c low high =
    let least : nat_le 46 c ≡ true = grind (arith, nat_tests, low) in
    let most : nat_le c 57 ≡ true = grind (arith, nat_tests, high) in
    rw (least, most) refl

by_second : (c : ℕ) → 65 ≤ c → c ≤ 90 → is_crypt_character c ≡ true
by_second c low high =
    let least : nat_le 65 c ≡ true = grind (arith, nat_tests, low) in
    let most : nat_le c 90 ≡ true = grind (arith, nat_tests, high) in
    let both : (nat_le 65 c && nat_le c 90) ≡ true = rw (least, most) refl in
    ap (λ (t : Bool). (nat_le 46 c && nat_le c 57) || t || (nat_le 97 c && nat_le c 122)) both
    ∙ ap (λ (t : Bool). t || (nat_le 97 c && nat_le c 122)) (or-true (nat_le 46 c && nat_le c 57))

by_third : (c : ℕ) → 97 ≤ c → c ≤ 122 → is_crypt_character c ≡ true
by_third c low high =
    let least : nat_le 97 c ≡ true = grind (arith, nat_tests, low) in
    let most : nat_le c 122 ≡ true = grind (arith, nat_tests, high) in
    let both : (nat_le 97 c && nat_le c 122) ≡ true = rw (least, most) refl in
    ap (λ (t : Bool). (nat_le 46 c && nat_le c 57) || (nat_le 65 c && nat_le c 90) || t) both
    ∙ or-true ((nat_le 46 c && nat_le c 57) || (nat_le 65 c && nat_le c 90))

by_range : (a b : Bool) (v : ℕ) → nat_lt v 12 ≡ a → nat_lt v 38 ≡ b → v < 64
    → is_crypt_character (if a then 46 + v else (if b then 53 + v else 59 + v)) ≡ true
by_range true b v ia ib small =
    let below : v < 12 = grind (arith, nat_tests, ia) in
    by_first (46 + v) (omega arith) (omega (arith, below))
by_range false true v ia ib small =
    let least : 12 ≤ v = grind (arith, nat_tests, ia) in
    let below : v < 38 = grind (arith, nat_tests, ib) in
    by_second (53 + v) (omega (arith, least)) (omega (arith, below))
by_range false false v ia ib small =
    let least : 38 ≤ v = grind (arith, nat_tests, ib) in
    by_third (59 + v) (omega (arith, least)) (omega (arith, small))

pub is_character : (v : ℕ) → v < 64 → is_crypt_character (character v) ≡ true
is_character v small = by_range (nat_lt v 12) (nat_lt v 38) v refl refl small

digits_are : (n v : ℕ) → list_all is_crypt_character (digits_text n v) ≡ true
unfolding digits_text
digits_are zero v = refl
digits_are (suc n) v = rw (is_character (v / 64 ^ n % 64) (omega arith)) (digits_are n v)

led : (first n w : ℕ) → first < 64 → list_all is_crypt_character (character first ∷ digits_text n w) ≡ true
led first n w small = rw (is_character first small) (digits_are n w)

number_by : (a b c d : Bool) (v : ℕ) → nat_lt v 48 ≡ a → nat_lt v 560 ≡ b → nat_lt v 16944 ≡ c → nat_lt v 541232 ≡ d
    → v < 541232 → list_all is_crypt_character (number_text v) ≡ true
unfolding number_text
number_by true b c d v ia ib ic id small =
    let low : v < 48 = grind (arith, nat_tests, ia) in
    rw ia (led (0 + (v - 0) / 1) 0 (v - 0) (omega (arith, div-one (v - 0), low)))
number_by false true c d v ia ib ic id small =
    let low : v < 560 = grind (arith, nat_tests, ib) in
    rw (ia, ib) (led (48 + (v - 48) / 64) 1 (v - 48) (omega (arith, low)))
number_by false false true d v ia ib ic id small =
    let low : v < 16944 = grind (arith, nat_tests, ic) in
    rw (ia, ib, ic) (led (56 + (v - 560) / 4096) 2 (v - 560) (omega (arith, low)))
number_by false false false true v ia ib ic id small =
    rw (ia, ib, ic, id) (led (60 + (v - 16944) / 262144) 3 (v - 16944) (omega (arith, small)))
number_by false false false false v ia ib ic id small = absurd (let no_less = id in grind (arith, nat_tests, no_less, small))

number_is : (v : ℕ) → v < 541232 → list_all is_crypt_character (number_text v) ≡ true
number_is v small = number_by (nat_lt v 48) (nat_lt v 560) (nat_lt v 16944) (nat_lt v 541232) v refl refl refl refl small

time_by : (t : ℕ) (test : Bool) → t ≤ 1024
    → list_all is_crypt_character (if test then [] else number_text 1 ++ number_text (t - 1)) ≡ true
time_by t true small = refl
time_by t false small =
    all_append is_crypt_character (number_text 1) (number_text (t - 1)) (number_is 1 (omega arith))
    (number_is (t - 1) (omega (arith, small)))

pub params_characters : (p : YescryptParams) → in_bounds p ≡ true → list_all is_crypt_character (yescrypt_params_text p) ≡ true
unfolding yescrypt_params_text
params_characters p good =
    let bounds = bounds_of p.ln p.r p.t good in
    let rows = bounds.few_rows in
    let blocks = bounds.few_blocks in
    all_append is_crypt_character (number_text 47) (number_text (p.ln - 1) ++ (number_text (p.r - 1) ++ time_text p.t))
    (number_is 47 (omega arith))
    (all_append is_crypt_character (number_text (p.ln - 1)) (number_text (p.r - 1) ++ time_text p.t)
    (number_is (p.ln - 1) (omega (arith, rows)))
    (all_append is_crypt_character (number_text (p.r - 1)) (time_text p.t) (number_is (p.r - 1) (omega (arith, blocks)))
    (time_by p.t (p.t == 0) bounds.time)))

five_are : (v : ℕ) → list_all is_crypt_character (five_text v) ≡ true
unfolding five_text
five_are v =
    rw (
      is_character (v % 64) (omega arith),
      is_character (v / 64 % 64) (omega arith),
      is_character (v / 64 ^ 2 % 64) (omega arith),
      is_character (v / 64 ^ 3 % 64) (omega arith),
      is_character (v / 64 ^ 4 % 64) (omega arith),
    ) refl

pub scrypt_params_characters : (p : ScryptParams) → scrypt_in_bounds p ≡ true → list_all is_crypt_character (scrypt_params_text p) ≡ true
unfolding scrypt_params_text
scrypt_params_characters p good =
    let bounds = scrypt_bounds_of p good in
    let rows = bounds.rows in
    rw (is_character p.ln (omega (arith, rows)))
    (all_append is_crypt_character (five_text p.r) (five_text p.p) (five_are p.r) (five_are p.p))
