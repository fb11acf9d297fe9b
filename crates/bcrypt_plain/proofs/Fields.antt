-- The characters of salts and hashes.
use Rattle.std.proofs.Common.{◌≡◌, ℕ, ◌+◌, ◌*◌, ◌/◌, ◌≤◌, ◌<◌, Bool, true, false, List, [], length, refl, sym, ap, ◌∙◌, arith, rules}
use Rattle.std.proofs.Common.{inl, inr}
use Rattle.std.specs.Prelude.{◌==◌, ◌++◌, ◌↔◌, ◌⊎◌, drop, Option, Some, None, Result, Ok, Err, IsErr, IfOk, MatchOption, if◌then◌else◌}
use Rattle.std.proofs.lemmas.Bool.Decides.{nat_tests}
use Rattle.std.proofs.lemmas.List.{append-nil, drop_all}
use Rattle.std.proofs.lemmas.Option.{none-some}
use Rattle.base64ct.specs.Alphabets.{base64_bcrypt}
use Rattle.base64ct.specs.Decoding.{decoding}
use Rattle.base64ct.specs.Encoding.{EachBelow, byte_count, encoding, longest_input}
use Rattle.base64ct.specs.declared.errors.InvalidLengthError.{InvalidLengthError}
use Rattle.base64ct.proofs.DecodingLaws.{decoding-Some, decoding-encoding, decoding_is, length-decodable}
use Rattle.base64ct.proofs.Encodings.{encoding_once}
use Rattle.bcrypt_plain.specs.Field.{IsBcryptFieldOf, bcrypt_field, field_bytes}

pub encoding_len : (b : List ℕ) → EachBelow 256 b → length (encoding base64_bcrypt b) ≡ (4 * length b + 2) / 3
encoding_len b below = length-decodable base64_bcrypt (encoding base64_bcrypt b) b refl
    (decoding-encoding base64_bcrypt b refl below)

-- what the encoder leaves of a buffer of just the right length
pub encoded : (bytes old new : List ℕ) (r : Result ℕ InvalidLengthError) → EachBelow 256 bytes
    → length bytes ≤ longest_input → length old ≡ (4 * length bytes + 2) / 3
    → IsErr r ↔ ((longest_input < length bytes) ⊎ (length old < length (encoding base64_bcrypt bytes)))
    → IfOk r (λ n. (n ≡ length (encoding base64_bcrypt bytes)) × (n ≤ length old)
    × (new ≡ encoding base64_bcrypt bytes ++ drop n old))
    → new ≡ bcrypt_field bytes
encoded bytes old new (Ok n) small short room refused written =
    let len = encoding_len bytes small in
    let none : drop n old ≡ [] = drop_all n old (omega (arith, written.0)) in
    written.2 ∙ ap (λ (xs : List ℕ). encoding base64_bcrypt bytes ++ xs) none
    ∙ append-nil (encoding base64_bcrypt bytes)
encoded bytes old new (Err e) small short room refused written =
    let len = encoding_len bytes small in
    elim (refused.0 (search rules)) [ inl long ↦ absurd (omega arith) | inr full ↦ absurd (omega arith) ]

kept : (t : Bool) (r : Option (List ℕ)) (bytes : List ℕ) → (if t then r else None) ≡ Some bytes
    → (t ≡ true) × (r ≡ Some bytes)
kept true r bytes h = (refl, h)
kept false r bytes h = absurd (none-some bytes h)

pub decoded : (m n : ℕ) (text bytes : List ℕ) → ((k : ℕ) → (4 * k + 2) / 3 ≡ m → k ≡ n)
    → field_bytes m text ≡ Some bytes → IsBcryptFieldOf n text bytes
decoded m n text bytes one found =
    let both = kept (length text == m) (decoding base64_bcrypt text) bytes found in
    let parts = decoding-Some base64_bcrypt text bytes both.1 in
    let right : length text ≡ m = grind (arith, nat_tests, both.0) in
    let size = length-decodable base64_bcrypt text bytes refl both.1 in
    (one (length bytes) (sym size ∙ right), parts.0, parts.1)

pub not_decoded : (m n : ℕ) (text bytes : List ℕ) → m ≡ (4 * n + 2) / 3 → field_bytes m text ≡ None
    → IsBcryptFieldOf n text bytes → ⊥
not_decoded m n text bytes room none is =
    let found : decoding base64_bcrypt text ≡ Some bytes = decoding_is base64_bcrypt text bytes refl is.1 is.2 in
    let len : length text ≡ (4 * length bytes + 2) / 3 = ap length is.2 ∙ encoding_len bytes is.1 in
    let size : length bytes ≡ n = is.0 in
    let same : length text ≡ m = len ∙ ap (λ (k : ℕ). (4 * k + 2) / 3) size ∙ sym room in
    let test : (length text == m) ≡ true = grind (arith, nat_tests, same) in
    absurd (none-some bytes (sym none ∙ rw (test, found) refl))

pub field_once : (x y : List ℕ) → EachBelow 256 x → EachBelow 256 y → bcrypt_field x ≡ bcrypt_field y → x ≡ y
field_once x y below_x below_y same = encoding_once base64_bcrypt x y refl below_x below_y same

-- what is found, by cases
pub answer_found : (m n : ℕ) (text : List ℕ) (r : Option (List ℕ)) → m ≡ (4 * n + 2) / 3
    → ((k : ℕ) → (4 * k + 2) / 3 ≡ m → k ≡ n) → r ≡ field_bytes m text
    → MatchOption r ((b : List ℕ) → IsBcryptFieldOf n text b → ⊥) (λ b. IsBcryptFieldOf n text b)
answer_found m n text None room one e = λ b is. not_decoded m n text b room (sym e) is
answer_found m n text (Some b) room one e = decoded m n text b one (sym e)

-- as many characters as n bytes have are those of n bytes
pub bytes_of_len : (n len : ℕ) → len ≡ (4 * n + 2) / 3 → byte_count len ≡ n
bytes_of_len n len is = omega (arith, is)
