-- Rounds are written by their decimal alone.
use Rattle.std.proofs.Common.{◌≡◌, ℕ, ◌^◌, ◌<◌, ◌≤◌, Bool, true, false, List, refl, sym, ap, ◌∙◌, arith}
use Rattle.std.specs.Prelude.{◌==◌, Option, Some, None, if◌then◌else◌}
use Rattle.std.specs.Char.{is_ascii_digit}
use Rattle.std.specs.Fmt.{decimal}
use Rattle.std.proofs.lemmas.Bool.Decides.{nat_tests}
use Rattle.std.proofs.lemmas.Fmt.{digits_decimal}
use Rattle.std.proofs.lemmas.Option.{none-some, same_Some}
use Rattle.pieces.specs.Numbers.{plain_number}
use Rattle.pieces.specs.Pieces.{LacksByte}
use Rattle.pieces.proofs.ByteTests.{lacks}
use Rattle.pieces.proofs.PlainNumbers as of_number
use Rattle.plain_rounds.specs.Rounds.{rounds_from, rounds_of}

-- a text writes these rounds
pub record IsRounds (text : List ℕ) (n : ℕ) : Type 0 where
  pub least : 1 ≤ n
  pub most : n < 2 ^ 32
  pub is : decimal n ≡ text

not_zero : (t : Bool) (m n : ℕ) → (m == 0) ≡ t → (if t then None else Some m) ≡ Some n → (1 ≤ m) × (m ≡ n)
not_zero true m n is e = absurd (none-some n e)
not_zero false m n is e = (grind (arith, nat_tests, is), same_Some m n e)

by_number : (text : List ℕ) (o : Option ℕ) (n : ℕ) → plain_number (2 ^ 32) text ≡ o → rounds_from o ≡ Some n → IsRounds text n
by_number text None n is e = absurd (none-some n e)
by_number text (Some m) n is e =
    let some = not_zero (m == 0) m n refl e in
    let found = of_number.found (2 ^ 32) text m is in
    let back : decimal m ≡ text = of_number.decimal_back (2 ^ 32) text m (omega arith) is in
    record {
      least = omega (arith, some.0, some.1);
      most = omega (arith, found.below, some.1);
      is = ap decimal (sym some.1) ∙ back;
    }

-- the text that was read is the decimal of the rounds
pub rounds_are : (text : List ℕ) (n : ℕ) → rounds_of text ≡ Some n → IsRounds text n
rounds_are text n h = by_number text (plain_number (2 ^ 32) text) n refl h

-- the decimal is read back
pub rounds_read : (n : ℕ) → 1 ≤ n → n < 2 ^ 32 → rounds_of (decimal n) ≡ Some n
rounds_read n least most =
    let other : (n == 0) ≡ false = grind (arith, nat_tests, least) in
    rw (of_number.decimal_read (2 ^ 32) n (omega arith) most, other) refl

-- no digit is `$`
pub rounds_lack_dollar : (n : ℕ) → n < 2 ^ 32 → LacksByte 36 (decimal n)
rounds_lack_dollar n small =
    lacks is_ascii_digit 36 refl (decimal n) (digits_decimal of_number.own n (omega (arith, small)))
