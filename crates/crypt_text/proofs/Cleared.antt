-- The last character of bcrypt's salt, with its low bits cleared.
use Rattle.std.proofs.Common.{◌≡◌, ℕ, ◌<◌, true, List, [], ◌∷◌, ◌++◌, length, take}
use Rattle.std.proofs.Common.{refl, sym, ap, ◌∙◌, arith, set, slice_index}
use Rattle.std.specs.Prelude.{◌==◌, Option, Some, None, MatchOption}
use Rattle.std.specs.List.{position_or_len}
use Rattle.std.proofs.lemmas.Bool.Decides.{nat_tests}
use Rattle.std.proofs.lemmas.List.{drop_all, set_split}
use Rattle.std.proofs.lemmas.List.Sums.{position_or_len_is}
use Rattle.base64ct.specs.Alphabets.{base64_bcrypt}
use Rattle.base64ct.specs.Decoding.{decoding}
use Rattle.base64ct.proofs.DecodingLaws.{decoding-Some, decoding_is, length-decodable}
use Rattle.pieces.specs.Places.{LacksBelow}
use Rattle.bcrypt_plain.specs.Field.{IsBcryptFieldOf, field_bytes}

pub value_is : (c at : ℕ) → at < 64 → LacksBelow c base64_bcrypt.characters at
    → slice_index base64_bcrypt.characters at ≡ c → position_or_len (λ x. x == c) base64_bcrypt.characters ≡ at
value_is c at low lacks is =
    position_or_len_is (λ x. x == c) base64_bcrypt.characters at 0 (omega (arith, low))
    (λ k below. let other = lacks k below in grind (arith, nat_tests, other))
    (λ inside. grind (arith, nat_tests, is))

pub no_value : (c : ℕ) → LacksBelow c base64_bcrypt.characters 64
    → position_or_len (λ x. x == c) base64_bcrypt.characters ≡ 64
no_value c lacks =
    position_or_len_is (λ x. x == c) base64_bcrypt.characters 64 0 (omega arith)
    (λ k below. let other = lacks k below in grind (arith, nat_tests, other)) (λ inside. absurd (omega (arith, inside)))

pub last_set : (l : List ℕ) (c : ℕ) → length l ≡ 22 → set l 21 c ≡ take 21 l ++ c ∷ []
last_set l c len =
    set_split l 21 c (omega (arith, len)) ∙ ap (λ (t : List ℕ). take 21 l ++ c ∷ t) (drop_all 22 l (omega (arith, len)))

-- the bytes of 22 characters
salt_found : (text : List ℕ) (o : Option (List ℕ)) → length text ≡ 22 → decoding base64_bcrypt text ≡ o
    → ((salt : List ℕ) → IsBcryptFieldOf 16 text salt → ⊥) → o ≡ None
salt_found text None len is none = refl
salt_found text (Some salt) len is none =
    let parts = decoding-Some base64_bcrypt text salt is in
    let size = length-decodable base64_bcrypt text salt refl is in
    absurd (none salt (omega (arith, size, len), parts.0, parts.1))

pub salt_is : (text : List ℕ) (r : Option (List ℕ)) → length text ≡ 22
    → MatchOption r ((salt : List ℕ) → IsBcryptFieldOf 16 text salt → ⊥) (λ salt. IsBcryptFieldOf 16 text salt)
    → r ≡ field_bytes 22 text
salt_is text None len found =
    let test : (length text == 22) ≡ true = grind (arith, nat_tests, len) in
    rw test (sym (salt_found text (decoding base64_bcrypt text) len refl found))
salt_is text (Some salt) len found =
    let test : (length text == 22) ≡ true = grind (arith, nat_tests, len) in
    rw test (sym (decoding_is base64_bcrypt text salt refl found.1 found.2))
