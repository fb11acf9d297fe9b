-- Which bytes the parts of a record consist of.
use Rattle.std.proofs.Common.{◌≡◌, ℕ, suc, ◌^◌, ◌<◌, Bool, true, false, List, [], ◌∷◌, length, map}
use Rattle.std.proofs.Common.{refl, sym, ap, ◌∙◌, arith}
use Rattle.std.specs.Prelude.{◌==◌, ◌&&◌, nat_le}
use Rattle.std.specs.List.{list_all}
use Rattle.std.specs.Char.{is_ascii_digit}
use Rattle.std.specs.Fmt.{decimal}
use Rattle.std.proofs.lemmas.Bool.{and_parts, false≢true}
use Rattle.std.proofs.lemmas.Bool.Decides.{nat_tests}
use Rattle.std.proofs.lemmas.Fmt.{digits_decimal}
use Rattle.pieces.proofs.ByteTests.{passes_at}
use Rattle.base64ct.specs.Alphabets.{base64_unpadded}
use Rattle.base64ct.specs.Encoding.{EachBelow, character, groups}
use Rattle.base64ct.specs.Encoding as base64
use Rattle.base64ct.proofs.Encodings.{groups-below}
use Rattle.phc.specs.Encoded.{encoding}
use Rattle.phc.specs.Grammar.{has_byte, is_name, is_value_byte}
use Rattle.pieces.specs.Characters.{is_name_byte}
use Rattle.pieces.proofs.PlainNumbers.{own}
pub use Rattle.pieces.proofs.ByteTests.{all_append, all_weaker, lacks}

not_same : (p : ℕ → Bool) (c b : ℕ) → p c ≡ false → p b ≡ true → (b == c) ≡ false
not_same p c b other h = by_test (b == c) refl
  where
    by_test : (t : Bool) → (b == c) ≡ t → t ≡ false
    by_test false is = refl
    by_test true is = let same : b ≡ c = grind (arith, nat_tests, is) in
        absurd (false≢true (sym other ∙ ap p (sym same) ∙ h))

-- a text of bytes among which c is none has no c
pub has_none : (p : ℕ → Bool) (c : ℕ) → p c ≡ false → (s : List ℕ) → list_all p s ≡ true → has_byte c s ≡ false
has_none p c other [] h = refl
has_none p c other (b ∷ s) h =
    let parts = and_parts (p b) (list_all p s) h in
    rw (not_same p c b other parts.0) (has_none p c other s parts.1)

-- ---- names

pub name_bytes : (s : List ℕ) → is_name s ≡ true → list_all is_name_byte s ≡ true
name_bytes s h = (and_parts (nat_le 1 (length s) && nat_le (length s) 32) (list_all is_name_byte s) h).1

-- ---- decimals

pub decimal_digits : (n : ℕ) → n < 2 ^ 32 → list_all is_ascii_digit (decimal n) ≡ true
decimal_digits n h = digits_decimal own n (omega (arith, h))

-- ---- encodings

characters_pass : (p : ℕ → Bool) (values : List ℕ) → list_all p base64_unpadded.characters ≡ true → EachBelow 64 values
    → list_all p (map (character base64_unpadded) values) ≡ true
characters_pass p [] h below = refl
characters_pass p (v ∷ values) h below =
    rw (passes_at p base64_unpadded.characters v h (below 0)) (characters_pass p values h (λ i. below (suc i)))

-- an encoding is a value
pub encoding_value : (b : List ℕ) → EachBelow 256 b → list_all is_value_byte (encoding b) ≡ true
unfolding base64.encoding
encoding_value b below =
    all_append is_value_byte (map (character base64_unpadded) (groups base64_unpadded.low_first b)) []
    (characters_pass is_value_byte (groups base64_unpadded.low_first b) refl
    (groups-below base64_unpadded.low_first b below)) refl
