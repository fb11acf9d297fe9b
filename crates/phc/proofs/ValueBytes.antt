-- Texts whose bytes are those of names and values: they are ASCII and lack `,` and `=`.
use Rattle.std.proofs.Common.{◌≡◌, ℕ, ◌^◌, ◌<◌, ◌≤◌, true, List, length, refl, arith}
use Rattle.std.specs.Prelude.{◌&&◌, nat_le, None, Some}
use Rattle.std.specs.Char.{is_ascii_digit}
use Rattle.std.specs.Fmt.{decimal}
use Rattle.std.specs.List.{list_all}
use Rattle.std.specs.Str.{IsAscii, IsUtf8}
use Rattle.std.proofs.lemmas.Bool.{and_parts}
use Rattle.std.proofs.lemmas.Bool.Decides.{nat_tests}
use Rattle.std.proofs.lemmas.Fmt.{length-decimal-le}
use Rattle.std.proofs.lemmas.Str.{IsUtf8-from_ascii}
use Rattle.base64ct.specs.Encoding.{EachBelow}
use Rattle.phc.specs.Encoded.{encoding}
use Rattle.phc.specs.Grammar.{decimal_value, has_value_bytes, is_name, is_value_byte, value_fault}
use Rattle.pieces.specs.Characters.{is_name_byte}
use Rattle.phc.specs.declared.error.Error.TheVariants.{ParamValueInvalid, ParamValueTooLong}
use Rattle.phc.proofs.Characters.{all_weaker, decimal_digits, encoding_value}
use Rattle.phc.proofs.EncodedBytes.{encoded_length}
use Rattle.phc.proofs.FieldFaults.{both_hold}
use Rattle.phc.proofs.NameLemmas.{name_byte_ascii}
use Rattle.pieces.proofs.ByteTests.{all_ascii}
use Rattle.pieces.proofs.PlainNumbers.{decimal_read}

-- ---- a test of each byte

-- ---- names and values

value_byte_ascii : (b : ℕ) → is_value_byte b ≡ true → b < 128
value_byte_ascii b h = grind (arith, nat_tests)

pub digit_is_value : (b : ℕ) → is_ascii_digit b ≡ true → is_value_byte b ≡ true
digit_is_value b h = grind (arith, nat_tests)

-- a value has at most 64 bytes, all of them those of values
pub value_parts : (s : List ℕ) → value_fault s ≡ None → (length s ≤ 64) × (has_value_bytes s ≡ true)
value_parts s h =
    let parts = both_hold (nat_le (length s) 64) (has_value_bytes s) ParamValueTooLong ParamValueInvalid h in
    (grind (arith, nat_tests, parts.0), parts.1)

pub value_from : (s : List ℕ) → length s ≤ 64 → has_value_bytes s ≡ true → value_fault s ≡ None
value_from s short bytes = let fits : nat_le (length s) 64 ≡ true = grind (arith, nat_tests) in rw (fits, bytes) refl

-- a name has 1 to 32 bytes, all of them those of names
pub name_parts : (s : List ℕ) → is_name s ≡ true → (1 ≤ length s) × (length s ≤ 32) × (list_all is_name_byte s ≡ true)
name_parts s h =
    let outer = and_parts (nat_le 1 (length s) && nat_le (length s) 32) (list_all is_name_byte s) h in
    let inner = and_parts (nat_le 1 (length s)) (nat_le (length s) 32) outer.0 in
    (grind (arith, nat_tests, inner.0), grind (arith, nat_tests, inner.1), outer.1)

pub name_ascii : (s : List ℕ) → is_name s ≡ true → IsAscii s
name_ascii s h = all_ascii is_name_byte name_byte_ascii s (name_parts s h).2

pub value_ascii : (s : List ℕ) → value_fault s ≡ None → IsAscii s
value_ascii s h = all_ascii is_value_byte value_byte_ascii s (value_parts s h).1

-- ---- decimals and encodings are values

pub digits_utf8 : (s : List ℕ) → list_all is_ascii_digit s ≡ true → IsUtf8 s
digits_utf8 s h = IsUtf8-from_ascii s
    (all_ascii is_value_byte value_byte_ascii s (all_weaker is_ascii_digit is_value_byte digit_is_value s h))

pub digits_value : (s : List ℕ) → list_all is_ascii_digit s ≡ true → length s ≤ 64 → value_fault s ≡ None
digits_value s h short = value_from s short (all_weaker is_ascii_digit is_value_byte digit_is_value s h)

pub decimal_length : (n : ℕ) → n < 2 ^ 32 → length (decimal n) ≤ 10
decimal_length n small = length-decimal-le 10 n (omega (arith, small)) (omega (arith, small)) (omega arith)

-- the decimal of a number of 32 bits is a value, and reads as the number
pub values : (n : ℕ) → n < 2 ^ 32 → list_all is_value_byte (decimal n) ≡ true
values n small = all_weaker is_ascii_digit is_value_byte digit_is_value (decimal n) (decimal_digits n small)

pub few : (n : ℕ) → n < 2 ^ 32 → nat_le (length (decimal n)) 64 ≡ true
few n small = let size = decimal_length n small in grind (arith, nat_tests, size)

pub number_read : (n : ℕ) → n < 2 ^ 32 → decimal_value (decimal n) ≡ Some n
number_read n small = decimal_read (2 ^ 32) n (omega arith) small

pub encoding_is_value : (b : List ℕ) → EachBelow 256 b → length b ≤ 48 → value_fault (encoding b) ≡ None
encoding_is_value b small short =
    value_from (encoding b) (omega (arith, encoded_length b small, short)) (encoding_value b small)
