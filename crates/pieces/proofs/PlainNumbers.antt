-- Numbers written plainly: they are the decimals, and what `parse` gives.
use Rattle.std.proofs.Common.{◌≡◌, ℕ, zero, suc, ◌^◌, ◌<◌, ◌≤◌, Bool, true, false, List, [], ◌∷◌, length, get_or}
use Rattle.std.proofs.Common.{refl, sym, ap, ◌∙◌, arith, rules, Result, Ok, Err}
use Rattle.std.specs.Prelude.{◌&&◌, not, nat_le, nat_lt, Some, None, if◌then◌else◌}
use Rattle.std.specs.Char.{is_ascii_digit}
use Rattle.std.specs.Fmt.{decimal, digits}
use Rattle.std.specs.List.{list_all}
use Rattle.std.specs.Result.{OkIff, result_ok}
use Rattle.std.specs.Str.Parse.{ParsesUnsigned}
use Rattle.std.proofs.lemmas.Str.Parse.{IsNumeralModel, numerals_by_fold, parse_digits}
use Rattle.std.proofs.lemmas.Bool.Decides.{nat_tests}
use Rattle.std.proofs.lemmas.Bool.{and_parts}
use Rattle.std.proofs.lemmas.Fmt.{decimal-digits_value, decimal_nonempty, digits_decimal, digits_value-decimal}
use Rattle.std.proofs.lemmas.Fmt.{first_decimal}
use Rattle.std.proofs.lemmas.Option.{none-some}
use Rattle.pieces.specs.Numbers.{has_leading_zero, is_plain_number, number_after, plain_number}
use Rattle.pieces.proofs.ListLaws.{no_leading_zero}

pub own : IsNumeralModel (λ ds. list_all is_ascii_digit ds ≡ true) (number_after 0)
own = numerals_by_fold _ (search rules) number_after (search rules)

-- what a plain number is
pub record Plain (s : List ℕ) : Type 0 where
  pub digits : list_all is_ascii_digit s ≡ true
  pub lead : not (has_leading_zero s) ≡ true
  pub some : 0 < length s

pub plain_parts : (s : List ℕ) → is_plain_number s ≡ true → Plain s
plain_parts s h =
    let outer = and_parts (list_all is_ascii_digit s && not (has_leading_zero s)) (nat_le 1 (length s)) h in
    let inner = and_parts (list_all is_ascii_digit s) (not (has_leading_zero s)) outer.0 in
    record { digits = inner.0; lead = inner.1; some = grind (arith, nat_tests, outer.1) }

-- the number that was found, and what its text is
pub record Found (bound : ℕ) (s : List ℕ) (n : ℕ) : Type 0 where
  pub plain : Plain s
  pub value : number_after 0 s ≡ n
  pub below : n < bound

pub found : (bound : ℕ) (s : List ℕ) (n : ℕ) → plain_number bound s ≡ Some n → Found bound s n
found bound s n h = by_test (is_plain_number s && nat_lt (number_after 0 s) bound) refl h
  where
    by_test : (t : Bool) → (is_plain_number s && nat_lt (number_after 0 s) bound) ≡ t
        → (if t then Some (number_after 0 s) else None) ≡ Some n → Found bound s n
    by_test false is e = absurd (none-some n e)
    by_test true is e =
        let parts = and_parts (is_plain_number s) (nat_lt (number_after 0 s) bound) is in
        let value : number_after 0 s ≡ n = cc in
        let small : number_after 0 s < bound = grind (arith, nat_tests, parts.1) in
        record { plain = plain_parts s parts.0; value = value; below = omega (arith, value, small) }

lone_zero : (ds : List ℕ) → not (has_leading_zero ds) ≡ true → get_or ds 0 0 ≡ 48 → length ds ≡ 1
lone_zero [] h z = absurd (omega (arith, z))
lone_zero (d ∷ []) h z = refl
lone_zero (d ∷ e ∷ ds) h z = let same : d ≡ 48 = z in absurd (grind (arith, nat_tests, h, same))

-- a number is written plainly by its decimal alone
pub decimal_back : (bound : ℕ) (s : List ℕ) (n : ℕ) → bound ≤ 2 ^ 64 → plain_number bound s ≡ Some n → decimal n ≡ s
decimal_back bound s n within h =
    let f = found bound s n h in
    ap decimal (sym f.value)
    ∙ decimal-digits_value own s f.plain.digits f.plain.some (lone_zero s f.plain.lead)
    (omega (arith, within, f.value, f.below))

zero_alone : has_leading_zero (decimal 0) ≡ false
unfolding digits
zero_alone = refl

leading : (n : ℕ) → n < 2 ^ 64 → has_leading_zero (decimal n) ≡ false
leading zero h = zero_alone
leading (suc n) h = no_leading_zero (decimal (suc n)) (first_decimal (suc n) (omega arith) h)

-- and by it
pub decimal_read : (bound n : ℕ) → bound ≤ 2 ^ 64 → n < bound → plain_number bound (decimal n) ≡ Some n
decimal_read bound n within h =
    let value : number_after 0 (decimal n) ≡ n = digits_value-decimal own n (omega (arith, h, within)) in
    let some : 0 < length (decimal n) = decimal_nonempty n (omega (arith, h, within)) in
    let digits : list_all is_ascii_digit (decimal n) ≡ true = digits_decimal own n (omega (arith, h, within)) in
    let one : nat_le 1 (length (decimal n)) ≡ true = grind (arith, nat_tests, some) in
    let fits : nat_lt n bound ≡ true = grind (arith, nat_tests, h) in
    rw (digits, leading n (omega (arith, h, within)), one, value, fits) refl

-- ---- what `parse` gives

when_small : (bits : ℕ) (s : List ℕ) (n : ℕ) → is_plain_number s ≡ true → number_after 0 s < 2 ^ bits
    → n ≡ number_after 0 s → Some n ≡ plain_number (2 ^ bits) s
when_small bits s n plain small is =
    let fits : nat_lt (number_after 0 s) (2 ^ bits) ≡ true = grind (arith, nat_tests, small) in
    rw (plain, fits, is) refl

unless_small : (bits : ℕ) (s : List ℕ) (r : Bool) → (is_plain_number s && nat_lt (number_after 0 s) (2 ^ bits)) ≡ r
    → ((0 < length s) × (number_after 0 s < 2 ^ bits) → ⊥) → None ≡ plain_number (2 ^ bits) s
unless_small bits s false is none = rw is refl
unless_small bits s true is none =
    let parts = and_parts (is_plain_number s) (nat_lt (number_after 0 s) (2 ^ bits)) is in
    let small : number_after 0 s < 2 ^ bits = grind (arith, nat_tests, parts.1) in
    absurd (none ((plain_parts s parts.0).some, small))

by_answer : {E : Type 0} (bits : ℕ) (s : List ℕ) (r : Result ℕ E) → is_plain_number s ≡ true
    → OkIff r ((0 < length s) × (number_after 0 s < 2 ^ bits)) (number_after 0 s)
    → result_ok r ≡ plain_number (2 ^ bits) s
by_answer bits s (Ok n) plain h = when_small bits s n plain h.0.1 h.1
by_answer bits s (Err e) plain h = unless_small bits s _ refl h

-- what `parse` gives for a plain number
pub plain_parsed : {E : Type 0} (bits : ℕ) (s : List ℕ) (r : Result ℕ E) → is_plain_number s ≡ true
    → ParsesUnsigned bits 10 s r → result_ok r ≡ plain_number (2 ^ bits) s
plain_parsed bits s r plain h = by_answer bits s r plain (parse_digits own bits s r h (plain_parts s plain).digits)
