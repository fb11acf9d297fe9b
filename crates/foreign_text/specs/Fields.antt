-- The fields of foreign texts, and what they write.
use Rattle.std.specs.Prelude.{ℕ, Bool, ◌&&◌, ◌||◌, List, [], ◌∷◌, length, nat_le, nat_lt, Option, Some, None, is_none, Result, Ok, Err}
use Rattle.std.specs.Prelude.{if◌then◌else◌}
use Rattle.std.specs.Char.{is_ascii_digit}
use Rattle.std.specs.Int.{is_power_of_two, trailing_zeros, w32}
use Rattle.std.specs.List.{list_all}
use Rattle.std.specs.Result.{result_ok}
use Rattle.hex.specs.Hex.{decode_of}
use Rattle.base64ct.specs.Encoding.{Alphabet}
use Rattle.base64ct.specs.Decoding.{decoding}
use Rattle.phc.specs.Grammar.{decimal_value, value_fault}
use Rattle.foreign_text.specs.declared.fault.ForeignFault.{ForeignFault}
use Rattle.foreign_text.specs.declared.fault.ForeignFault.TheVariants.{Cost, Form, Rounds}
use Rattle.foreign_text.specs.declared.kdf.Kdf.{Kdf}
use Rattle.foreign_text.specs.declared.kdf.Kdf.TheVariants.{Pbkdf2, Scrypt}
use Rattle.foreign_text.specs.declared.kdf.Pbkdf2Hash.{Pbkdf2Hash}

-- ---- numbers

-- a plain decimal below 2^32
abbrev pub number_of : List ℕ → Option ℕ
number_of field = if is_none (value_fault field) then decimal_value field else None

-- the binary logarithm of a power of two from 2 on
abbrev pub logarithm : ℕ → Option ℕ
logarithm n = if is_power_of_two n && nat_lt 1 n then Some (trailing_zeros w32 n) else None

-- the same of a decimal
abbrev pub logarithm_of : Option ℕ → Option ℕ
logarithm_of None = None
logarithm_of (Some n) = logarithm n

-- ---- costs

-- PBKDF2 with a hash, by its rounds
abbrev pub by_rounds : Pbkdf2Hash → Option ℕ → Result Kdf ForeignFault
by_rounds hash None = Err Rounds
by_rounds hash (Some rounds) = Ok (Pbkdf2 hash rounds)

abbrev pub pbkdf2_cost : Pbkdf2Hash → List ℕ → Result Kdf ForeignFault
pbkdf2_cost hash rounds = by_rounds hash (number_of rounds)

-- scrypt, by the logarithm of N, r and p
abbrev pub by_numbers : Option ℕ → Option ℕ → Option ℕ → Result Kdf ForeignFault
by_numbers None r p = Err Cost
by_numbers (Some ln) None p = Err Cost
by_numbers (Some ln) (Some r) None = Err Cost
by_numbers (Some ln) (Some r) (Some p) = Ok (Scrypt ln r p)

abbrev pub scrypt_cost : List ℕ → List ℕ → List ℕ → Result Kdf ForeignFault
scrypt_cost n r p = by_numbers (logarithm_of (number_of n)) (number_of r) (number_of p)

-- ---- bytes

-- the most characters of a field that is decoded: no salt and no key of a record needs more
abbrev pub field_max : ℕ
field_max = 128

-- the bytes whose encoding a field is
abbrev pub field_bytes : Alphabet → List ℕ → Option (List ℕ)
field_bytes a field = if nat_le (length field) field_max then decoding a field else None

-- a hexadecimal digit, with a small or with a capital letter
abbrev pub is_small_digit : ℕ → Bool
is_small_digit b = is_ascii_digit b || (nat_le 97 b && nat_le b 102)

abbrev pub is_capital_digit : ℕ → Bool
is_capital_digit b = is_ascii_digit b || (nat_le 65 b && nat_le b 70)

-- the bytes that hexadecimal digits write, two each
abbrev pub digit_bytes : List ℕ → Option (List ℕ)
digit_bytes field = if nat_le (length field) field_max then result_ok (decode_of field) else None

-- the same, of digits with small letters alone
abbrev pub small_hex : List ℕ → Option (List ℕ)
small_hex field = if list_all is_small_digit field then digit_bytes field else None

-- the same, of digits with small or with capital letters, which aren't mixed
abbrev pub plain_hex : List ℕ → Option (List ℕ)
plain_hex field = if list_all is_small_digit field || list_all is_capital_digit field then digit_bytes field else None

-- ---- a text cut at one character

-- exactly two fields
pub record Two : Type 0 where
  pub first : List ℕ
  pub second : List ℕ

abbrev pub two_of : List (List ℕ) → Result Two ForeignFault
two_of [] = Err Form
two_of (a ∷ []) = Err Form
two_of (a ∷ (b ∷ [])) = Ok (record { first = a; second = b })
two_of (a ∷ (b ∷ (c ∷ more))) = Err Form

-- what is read in two fields
abbrev pub in_two : {A : Type 0} → (List ℕ → List ℕ → Result A ForeignFault) → Result Two ForeignFault → Result A ForeignFault
in_two read (Err e) = Err e
in_two read (Ok f) = read f.first f.second

-- exactly three fields
pub record Three : Type 0 where
  pub first : List ℕ
  pub second : List ℕ
  pub third : List ℕ

abbrev pub three_of : List (List ℕ) → Result Three ForeignFault
three_of [] = Err Form
three_of (a ∷ []) = Err Form
three_of (a ∷ (b ∷ [])) = Err Form
three_of (a ∷ (b ∷ (c ∷ []))) = Ok (record { first = a; second = b; third = c })
three_of (a ∷ (b ∷ (c ∷ (d ∷ more)))) = Err Form

-- what is read in three fields
abbrev pub in_three : {A : Type 0} → (List ℕ → List ℕ → List ℕ → Result A ForeignFault) → Result Three ForeignFault → Result A ForeignFault
in_three read (Err e) = Err e
in_three read (Ok f) = read f.first f.second f.third

-- two fields, and exactly three behind them
pub record Five : Type 0 where
  pub first : List ℕ
  pub second : List ℕ
  pub others : Three

abbrev pub five_with : List ℕ → List ℕ → Result Three ForeignFault → Result Five ForeignFault
five_with a b (Err e) = Err e
five_with a b (Ok others) = Ok (record { first = a; second = b; others = others })

abbrev pub five_of : List (List ℕ) → Result Five ForeignFault
five_of [] = Err Form
five_of (a ∷ []) = Err Form
five_of (a ∷ (b ∷ others)) = five_with a b (three_of others)

-- what is read in five fields
abbrev pub in_five : {A : Type 0} → (List ℕ → List ℕ → List ℕ → List ℕ → List ℕ → Result A ForeignFault) → Result Five ForeignFault
    → Result A ForeignFault
in_five read (Err e) = Err e
in_five read (Ok f) = read f.first f.second f.others.first f.others.second f.others.third

-- one field, and exactly three after it
pub record Four : Type 0 where
  pub first : List ℕ
  pub others : Three

abbrev pub four_with : List ℕ → Result Three ForeignFault → Result Four ForeignFault
four_with a (Err e) = Err e
four_with a (Ok others) = Ok (record { first = a; others = others })

abbrev pub four_of : List (List ℕ) → Result Four ForeignFault
four_of [] = Err Form
four_of (a ∷ others) = four_with a (three_of others)

-- what is read in four fields
abbrev pub in_four : {A : Type 0} → (List ℕ → List ℕ → List ℕ → List ℕ → Result A ForeignFault) → Result Four ForeignFault
    → Result A ForeignFault
in_four read (Err e) = Err e
in_four read (Ok f) = read f.first f.others.first f.others.second f.others.third
