-- Twenty-two characters of which the last has two bits are the hash field of sixteen bytes.
use Rattle.std.proofs.Common.{◌≡◌, ◌≢◌, ℕ, zero, suc, ◌+◌, ◌-◌, ◌≤◌, ◌<◌, Bool, true, false, List, [], ◌∷◌, length}
use Rattle.std.proofs.Common.{slice_index, map, refl, sym, ap, ◌∙◌, arith, Option, Some, None, inl, inr}
use Rattle.std.specs.Prelude.{is_some, nat_lt}
use Rattle.std.specs.List.{list_all}
use Rattle.std.proofs.lemmas.Bool.{cases_lt, false≢true}
use Rattle.std.proofs.lemmas.Bool.Decides.{nat_tests}
use Rattle.base64ct.specs.Alphabets.{base64_sha_crypt}
use Rattle.base64ct.specs.Blocks.{blocks, AreGood, IsEncoding}
use Rattle.base64ct.specs.Decoding.{decoding}
use Rattle.base64ct.specs.Encoding.{AreCharacters, encoding, value_of, bits, eights, groups, low_bits, number, sixes, whole_bytes}
use Rattle.base64ct.specs.Steps.{all_below}
use Rattle.base64ct.proofs.DecodingLaws.{decoding-Some, decoding_is, length-decodable}
use Rattle.base64ct.proofs.GoodBlocks.{encoding_by_blocks}
use Rattle.base64ct.proofs.StepLaws.{at_below}
use Rattle.pieces.specs.Characters.{is_crypt_character}
use Rattle.sha_crypt.specs.HashField.{is_hash_field}

-- if so, then
abbrev implies : Bool → Bool → Bool
implies true t = t
implies false t = true

modus : (s t : Bool) → implies s t ≡ true → s ≡ true → t ≡ true
modus true t h e = h
modus false t h e = absurd (false≢true e)

some_value : (o : Option ℕ) → is_some o ≡ true → o ≢ None
some_value None h e = absurd (false≢true h)
some_value (Some v) h e = absurd cc

-- a character of crypt(5) has a value
has_value : (c : ℕ) → is_crypt_character c ≡ true → c < 123
has_value c h = grind (arith, nat_tests, h)

is_value : (c : ℕ) → is_crypt_character c ≡ true → value_of base64_sha_crypt c ≢ None
is_value c h =
    some_value (value_of base64_sha_crypt c) (modus (is_crypt_character c) (is_some (value_of base64_sha_crypt c))
    (at_below 123 (λ x. implies (is_crypt_character x) (is_some (value_of base64_sha_crypt x))) refl c (has_value c h)) h)

-- two characters, of which the second is one of the first four, are the encoding of a byte
abbrev is_end : ℕ → ℕ → Bool
is_end c n = is_some (decoding base64_sha_crypt (c ∷ (46 + n) ∷ []))

abbrev are_ends : ℕ → Bool
are_ends c = implies (is_crypt_character c) (all_below 4 (is_end c))

all_are : all_below 123 are_ends ≡ true
unfolding decoding whole_bytes encoding groups sixes eights bits low_bits number
all_are = refl

end_decodes : (c d : ℕ) → is_crypt_character c ≡ true → is_crypt_character d ≡ true → d < 50
    → is_some (decoding base64_sha_crypt (c ∷ d ∷ [])) ≡ true
end_decodes c d h last small =
    let low : 46 ≤ d = grind (arith, nat_tests, last) in
    let place : 46 + (d - 46) ≡ d = omega arith in
    let four = modus (is_crypt_character c) (all_below 4 (is_end c))
    (at_below 123 are_ends all_are c (has_value c h)) h in
    ap (λ x. is_some (decoding base64_sha_crypt (c ∷ x ∷ []))) (sym place)
    ∙ at_below 4 (is_end c) four (d - 46) (omega arith)

decoded : (o : Option (List ℕ)) → is_some o ≡ true → (b : List ℕ) × (o ≡ Some b)
decoded None h = absurd (false≢true h)
decoded (Some b) h = (b, refl)

is_end_encoding : (c d : ℕ) → is_crypt_character c ≡ true → is_crypt_character d ≡ true → d < 50
    → IsEncoding base64_sha_crypt (c ∷ d ∷ [])
is_end_encoding c d h last small =
    let found = decoded (decoding base64_sha_crypt (c ∷ d ∷ [])) (end_decodes c d h last small) in
    let is = decoding-Some base64_sha_crypt (c ∷ d ∷ []) found.0 found.1 in
    (found.0, is.0, is.1)

-- ---- all blocks

four_are : (t : List ℕ) (i : ℕ) → ((k : ℕ) → k < 22 → is_crypt_character (slice_index t k) ≡ true) → i + 4 ≤ 22
    → AreCharacters base64_sha_crypt (slice_index t i ∷ slice_index t (1 + i) ∷ slice_index t (2 + i) ∷ slice_index t (3 + i) ∷ [])
four_are t i all room zero lt = is_value (slice_index t i) (all i (omega (arith, room)))
four_are t i all room (suc zero) lt = is_value (slice_index t (1 + i)) (all (1 + i) (omega (arith, room)))
four_are t i all room (suc (suc zero)) lt = is_value (slice_index t (2 + i)) (all (2 + i) (omega (arith, room)))
four_are t i all room (suc (suc (suc zero))) lt = is_value (slice_index t (3 + i)) (all (3 + i) (omega (arith, room)))
four_are t i all room (suc (suc (suc (suc j)))) lt = absurd (omega (arith, lt))

-- the text, character by character
spelled : (t : List ℕ) → length t ≡ 22 → t ≡ map (slice_index t) (0 ∷ 1 ∷ 2 ∷ 3 ∷ 4 ∷ 5 ∷ 6 ∷ 7 ∷ 8 ∷ 9 ∷ 10 ∷ 11 ∷ 12
    ∷ 13 ∷ 14 ∷ 15 ∷ 16 ∷ 17 ∷ 18 ∷ 19 ∷ 20 ∷ 21 ∷ [])
spelled (a ∷ b ∷ c ∷ d ∷ e ∷ f ∷ g ∷ h ∷ i ∷ j ∷ k ∷ l ∷ m ∷ n ∷ o ∷ p ∷ q ∷ r ∷ s ∷ u ∷ v ∷ w ∷ []) long = refl
spelled t long = absurd (omega (arith, long))

are_good : (t : List ℕ) → length t ≡ 22 → ((k : ℕ) → k < 22 → is_crypt_character (slice_index t k) ≡ true)
    → slice_index t 21 < 50 → AreGood base64_sha_crypt (blocks t)
unfolding blocks AreGood
are_good t long all small =
    rw (spelled t long) (
      four_are t 0 all (omega arith),
      (
        four_are t 4 all (omega arith),
        (
          four_are t 8 all (omega arith),
          (
            four_are t 12 all (omega arith),
            (
              four_are t 16 all (omega arith),
              is_end_encoding (slice_index t 20) (slice_index t 21) (all 20 (omega arith)) (all 21 (omega arith)) small,
            ),
          ),
        ),
      ),
    )

pub sixteen_bytes : (t : List ℕ) → length t ≡ 22 → ((k : ℕ) → k < 22 → is_crypt_character (slice_index t k) ≡ true)
    → slice_index t 21 < 50 → is_hash_field 16 t ≡ true
sixteen_bytes t long all small =
    let is = (encoding_by_blocks base64_sha_crypt t refl).1 (are_good t long all small) in
    let found : decoding base64_sha_crypt t ≡ Some is.0 = decoding_is base64_sha_crypt t is.0 refl is.1 is.2 in
    let len = length-decodable base64_sha_crypt t is.0 refl found in
    let sixteen : length is.0 ≡ 16 = omega (arith, len, long) in
    rw (found, sixteen) refl

-- ---- all characters

-- from the first on
pub all_at : (p : ℕ → Bool) (t : List ℕ) → ((k : ℕ) → k < length t → p (slice_index t k) ≡ true) → list_all p t ≡ true
all_at p [] each = refl
all_at p (c ∷ t) each = rw (each 0 (omega arith)) (all_at p t (λ k below. each (suc k) (omega (arith, below))))

-- 22 bytes are those of two runs of 16
module _ (t : List ℕ) (long : length t ≡ 22)
    (front : (k : ℕ) → 0 ≤ k → k < 0 + 16 → is_crypt_character (slice_index t k) ≡ true)
    (back : (k : ℕ) → 6 ≤ k → k < 6 + 16 → is_crypt_character (slice_index t k) ≡ true) where
  each_of_two : (k : ℕ) → k < 22 → is_crypt_character (slice_index t k) ≡ true
  each_of_two k below = elim (cases_lt k 16) [
    | inl low ↦ front k (omega arith) (omega (arith, low))
    | inr high ↦ back k (omega (arith, high)) (omega (arith, below))
  ]

  pub all_of_two : list_all is_crypt_character t ≡ true
  all_of_two = all_at is_crypt_character t (λ k below. each_of_two k (omega (arith, below, long)))

  pub field_of_two : nat_lt (slice_index t 21) 50 ≡ true → is_hash_field 16 t ≡ true
  field_of_two small = sixteen_bytes t long each_of_two (grind (arith, nat_tests, small))
