-- Lengths of fields, and what stands for them.
use Rattle.std.proofs.Common.{◌≡◌, ℕ, ◌≤◌, ◌<◌, ◌⊎◌, true, false, List, length, refl, arith, inl, inr, Ok}
use Rattle.std.specs.Prelude.{nat_le, nat_lt, Some}
use Rattle.std.proofs.lemmas.Bool.Decides.{nat_tests}
use Rattle.base64ct.specs.Encoding.{Alphabet, EachBelow, longest_input}
use Rattle.base64ct.specs.Decoding.{decoding}
use Rattle.phc.specs.Encoded.{encoding}
use Rattle.phc.specs.Parts.{output_of_bytes, salt_of_bytes}
use Rattle.phc.proofs.EncodedBytes.{encoded_length}
use Rattle.foreign_text.specs.Fields.{field_bytes}

-- a short field that is decoded
pub taken : (a : Alphabet) (t b : List ℕ) → length t ≤ 128 → decoding a t ≡ Some b → field_bytes a t ≡ Some b
taken a t b short is =
    let fits : nat_le (length t) 128 ≡ true = grind (arith, nat_tests, short) in
    rw fits is

-- there is room for the encoding of few bytes
pub never_refused : (bytes : List ℕ) (n : ℕ) → EachBelow 256 bytes → length bytes ≤ 64 → 86 ≤ n
    → ((longest_input < length bytes) ⊎ (n < length (encoding bytes))) → ⊥
never_refused bytes n small few room (inl long) = omega (arith, long, few)
never_refused bytes n small few room (inr short) = omega (arith, encoded_length bytes small, short, few, room)

-- ---- salts and keys of a record

pub salt_held : (salt : List ℕ) → 8 ≤ length salt → length salt ≤ 48 → salt_of_bytes salt ≡ Ok salt
salt_held salt least most =
    let some : nat_lt (length salt) 8 ≡ false = grind (arith, nat_tests, least) in
    let fits : nat_lt 48 (length salt) ≡ false = grind (arith, nat_tests, most) in
    rw (some, fits) refl

pub key_held : (key : List ℕ) → 10 ≤ length key → length key ≤ 64 → output_of_bytes key ≡ Ok key
key_held key least most =
    let some : nat_lt (length key) 10 ≡ false = grind (arith, nat_tests, least) in
    let fits : nat_lt 64 (length key) ≡ false = grind (arith, nat_tests, most) in
    rw (some, fits) refl
