-- `decoding` gives the one list of bytes that a text is the encoding of.
use Rattle.std.proofs.Common.{◌≡◌, ℕ, zero, suc, ◌+◌, ◌*◌, ◌/◌, ◌-◌, Bool, true, false, List, [], ◌∷◌, length}
use Rattle.std.proofs.Common.{refl, sym, ap, ◌∙◌, arith}
use Rattle.std.specs.Prelude.{◌&&◌, nat_eq, nat_lt, Option, Some, None, if◌then◌else◌}
use Rattle.std.specs.Cmp.Lexicographic.{pointwise}
use Rattle.std.proofs.lemmas.Bool.{and_parts}
use Rattle.std.proofs.lemmas.Bool.Decides.{nat_tests}
use Rattle.std.proofs.lemmas.Option.{same_Some, none-some}
use Rattle.base64ct.specs.Encoding.{Alphabet, is_alphabet, EachBelow, encoding, whole_bytes, decoded_len, byte_count}
use Rattle.base64ct.specs.Answers.{IsNoEncoding}
use Rattle.base64ct.specs.Decoding.{decoding, if_encodes, are_bytes, values_in}
use Rattle.base64ct.proofs.Encodings.{decoded-encoding}
use Rattle.base64ct.proofs.Padding.{length-encoding, padding_count}

pub same_true : (x y : List ℕ) → pointwise nat_eq x y ≡ true → x ≡ y
same_true [] [] h = refl
same_true [] (b ∷ y) h = absurd (grind (arith, nat_tests, h))
same_true (a ∷ x) [] h = absurd (grind (arith, nat_tests, h))
same_true (a ∷ x) (b ∷ y) h =
    let parts = and_parts (nat_eq a b) (pointwise nat_eq x y) h in
    let tails : x ≡ y = same_true x y parts.1 in
    let heads : a ≡ b = grind (arith, nat_tests) in
    cc

pub true_same : (x : List ℕ) → pointwise nat_eq x x ≡ true
true_same [] = refl
true_same (a ∷ x) = let tails = true_same x in grind (arith, nat_tests)

pub below_true : (b : List ℕ) → are_bytes b ≡ true → EachBelow 256 b
below_true [] h i = omega arith
below_true (x ∷ b) h zero = let parts = and_parts (nat_lt x 256) (are_bytes b) h in grind (arith, nat_tests)
below_true (x ∷ b) h (suc i) = let parts = and_parts (nat_lt x 256) (are_bytes b) h in below_true b parts.1 i

pub true_below : (b : List ℕ) → EachBelow 256 b → are_bytes b ≡ true
true_below [] h = refl
true_below (x ∷ b) h =
    let head = h zero in
    let tails = true_below b (λ i. h (suc i)) in
    grind (arith, nat_tests)

by_test : (a : Alphabet) (t b c : List ℕ) (r : Bool) → (are_bytes b && pointwise nat_eq (encoding a b) t) ≡ r
    → (if r then Some b else None) ≡ Some c → EachBelow 256 c × (t ≡ encoding a c)
by_test a t b c true is h =
    let same = same_Some b c h in
    let parts = and_parts (are_bytes b) (pointwise nat_eq (encoding a b) t) is in
    rw (← same) (below_true b parts.0, sym (same_true (encoding a b) t parts.1))
by_test a t b c false is h = absurd (none-some c h)

-- what is found is bytes, and the text is their encoding
pub decoding-Some : (a : Alphabet) (t b : List ℕ) → decoding a t ≡ Some b → EachBelow 256 b × (t ≡ encoding a b)
unfolding decoding
decoding-Some a t b h = by_test a t (whole_bytes a.low_first (values_in a t)) b _ refl h

if_encodes-found : (a : Alphabet) (b : List ℕ) → EachBelow 256 b → if_encodes a (encoding a b) b ≡ Some b
if_encodes-found a b below = rw (true_below b below, true_same (encoding a b)) refl

-- an encoding is found
pub decoding-encoding : (a : Alphabet) (b : List ℕ) → is_alphabet a ≡ true → EachBelow 256 b
    → decoding a (encoding a b) ≡ Some b
unfolding decoding
decoding-encoding a b lawful below =
    ap (if_encodes a (encoding a b)) (decoded-encoding a b lawful below) ∙ if_encodes-found a b below

pub decoding_is : (a : Alphabet) (t b : List ℕ) → is_alphabet a ≡ true → EachBelow 256 b → t ≡ encoding a b
    → decoding a t ≡ Some b
decoding_is a t b lawful below is = ap (decoding a) is ∙ decoding-encoding a b lawful below

by_option : (a : Alphabet) (t : List ℕ) (r : Option (List ℕ)) → decoding a t ≡ r → IsNoEncoding a t
    → r ≡ None
by_option a t None is none = refl
by_option a t (Some b) is none = let parts = decoding-Some a t b is in absurd (none b parts.0 (sym parts.1))

-- no encoding, nothing found
pub decoding-None : (a : Alphabet) (t : List ℕ) → IsNoEncoding a t → decoding a t ≡ None
decoding-None a t none = by_option a t (decoding a t) refl none

-- nothing found, no encoding
pub undecodable : (a : Alphabet) (t : List ℕ) → is_alphabet a ≡ true → decoding a t ≡ None
    → IsNoEncoding a t
undecodable a t lawful none b below same = none-some b (sym none ∙ decoding_is a t b lawful below (sym same))

-- the length of an unpadded text tells the number of its bytes
pub length-decodable : (a : Alphabet) (t b : List ℕ) → a.padded ≡ false → decoding a t ≡ Some b
    → length t ≡ (4 * length b + 2) / 3
length-decodable a t b plain is =
    let parts = decoding-Some a t b is in
    let len = length-encoding a b parts.0 in
    let none : padding_count a.padded ((4 * length b + 2) / 3) ≡ 0 = rw plain refl in
    ap length parts.1 ∙ omega (arith, len, none)

pub decoded_len-unpadded : (a : Alphabet) (t : List ℕ) → a.padded ≡ false → decoded_len a t ≡ byte_count (length t)
decoded_len-unpadded a t plain =
    let all : length t - 0 ≡ length t = omega arith in
    rw plain (ap byte_count all)

pub length-decoding : (a : Alphabet) (t b : List ℕ) → a.padded ≡ false → decoding a t ≡ Some b
    → length b ≡ decoded_len a t
length-decoding a t b plain is =
    let len = length-decodable a t b plain is in
    let size_is = decoded_len-unpadded a t plain in
    omega (arith, len, size_is)
