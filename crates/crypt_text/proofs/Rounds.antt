-- A text that is not UTF-8 has no digits alone.
use Rattle.std.proofs.Common.{◌≡◌, ℕ, ◌^◌, ◌<◌, Bool, true, false, List, [], ◌∷◌, length, refl, sym, arith}
use Rattle.std.specs.Prelude.{IsAscii, ◌&&◌, ◌==◌, nat_le, nat_lt, Some, None, if◌then◌else◌}
use Rattle.std.specs.Char.{is_ascii_digit}
use Rattle.std.specs.Str.{IsUtf8, all_ascii_digits}
use Rattle.std.proofs.lemmas.Str.Ascii.{IsAscii-cons}
use Rattle.std.proofs.lemmas.Str.{IsUtf8-from_ascii}
use Rattle.std.proofs.lemmas.Bool.Decides.{nat_tests}
use Rattle.pieces.specs.Numbers.{has_leading_zero, number_after}
use Rattle.pieces.proofs.ByteTests.{all_ascii}
use Rattle.sha_crypt.specs.Fields.{number_of_digits, old_number, plain_number}

digit_ascii : (b : ℕ) → is_ascii_digit b ≡ true → b < 128
digit_ascii b h = grind (arith, nat_tests, h)

digits_are_ascii : (s : List ℕ) → all_ascii_digits s ≡ true → IsAscii s
digits_are_ascii s h = all_ascii is_ascii_digit digit_ascii s h

none_by : (s : List ℕ) (t : Bool) → all_ascii_digits s ≡ t → (IsAscii s → ⊥) → number_of_digits s ≡ None
none_by s true is other = absurd (other (digits_are_ascii s is))
none_by s false is other = rw is (by_length (nat_le 1 (length s)) (nat_lt (number_after 0 s) (2 ^ 64)))
  where
    by_length : (a b : Bool) → (if (a && false) && b then Some (number_after 0 s) else None) ≡ None
    by_length true b = refl
    by_length false b = refl

no_number : (s : List ℕ) → (IsUtf8 s → ⊥) → number_of_digits s ≡ None
no_number s other = none_by s (all_ascii_digits s) refl (λ ascii. other (IsUtf8-from_ascii s ascii))

pub no_plain : (s : List ℕ) → has_leading_zero s ≡ false → (IsUtf8 s → ⊥) → None ≡ plain_number s
no_plain s zero other = rw (zero, no_number s other) refl

-- after an ASCII character
after_ascii : (b : ℕ) (s : List ℕ) → b < 128 → (IsUtf8 (b ∷ s) → ⊥) → number_of_digits s ≡ None
after_ascii b s small other =
    none_by s (all_ascii_digits s) refl (λ ascii. other (IsUtf8-from_ascii (b ∷ s) (IsAscii-cons b s small ascii)))

-- the same where a `+` may stand in front
by_plus : (b : ℕ) (s : List ℕ) (t : Bool) → (b == 43) ≡ t → (IsUtf8 (b ∷ s) → ⊥)
    → None ≡ (if t then number_of_digits s else number_of_digits (b ∷ s))
by_plus b s true is other =
    let plus : b ≡ 43 = grind (arith, nat_tests, is) in
    sym (after_ascii b s (omega (arith, plus)) other)
by_plus b s false is other = sym (no_number (b ∷ s) other)

pub no_old : (s : List ℕ) → (IsUtf8 s → ⊥) → None ≡ old_number s
no_old [] other = refl
no_old (b ∷ s) other = by_plus b s (b == 43) refl other
