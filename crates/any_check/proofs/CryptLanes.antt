-- The test of sixteen characters, lane by lane.
use Rattle.std.proofs.Common.{◌≡◌, ℕ, zero, suc, ◌+◌, ◌-◌, ◌≤◌, ◌<◌, ◌%◌, ◌^◌, ◌∙◌, Bool, true, false, not, List, []}
use Rattle.std.proofs.Common.{◌∷◌, sym, ap, refl, cond, length, map, replicate, take, drop, get_or, slice_index, eqb}
use Rattle.std.proofs.Common.{ltb, eqb-true, bit_or, arith, ◌/◌}
use Rattle.std.proofs.lemmas.Bool.{false≢true}
use Rattle.std.proofs.lemmas.List.{get_or-map, length-map}
use Rattle.std.proofs.lemmas.Nat.Bits.{bit_at_ones}
use Rattle.std.proofs.lemmas.Simd.{length-chunk, get_or-chunk, bit_mask_l, mask_l-mod}
use Rattle.std.specs.Simd.Lanes.{zip2, mask_l, top}
use Rattle.base64ct.proofs.StepLaws.{at_below}
use Rattle.pieces.specs.Characters.{is_crypt_character}

-- all ones, or none
abbrev all_ones : Bool → ℕ
all_ones t = cond t 255 0

-- the tests of a byte, by arithmetic
abbrev is_digit : ℕ → Bool
is_digit x = ltb ((x + 210) % 256) 12

abbrev is_capital_letter : ℕ → Bool
is_capital_letter x = ltb ((x + 191) % 256) 26

abbrev is_small_letter : ℕ → Bool
is_small_letter x = ltb ((x + 159) % 256) 26

abbrev lane : ℕ → ℕ
lane x = bit_or (bit_or (all_ones (is_digit x)) (all_ones (is_capital_letter x))) (all_ones (is_small_letter x))

-- the tests of a vector of n lanes
abbrev lanes : ℕ → List ℕ → List ℕ
lanes n v = zip2 bit_or (zip2 bit_or
    (zip2 (λ a b. all_ones (ltb a b)) (zip2 (λ a b. (a + (256 - b)) % 256) v (replicate n 46)) (replicate n 12))
    (zip2 (λ a b. all_ones (ltb a b)) (zip2 (λ a b. (a + (256 - b)) % 256) v (replicate n 65)) (replicate n 26)))
    (zip2 (λ a b. all_ones (ltb a b)) (zip2 (λ a b. (a + (256 - b)) % 256) v (replicate n 97)) (replicate n 26))

lanes_are : (n : ℕ) (v : List ℕ) → length v ≡ n → lanes n v ≡ map lane v
lanes_are zero [] p = refl
lanes_are zero (x ∷ v) p = absurd (omega (arith, p))
lanes_are (suc n) [] p = absurd (omega (arith, p))
lanes_are (suc n) (x ∷ v) p = ap (λ l. lane x ∷ l) (lanes_are n v (omega (arith, p)))

-- whether two answers are the same
abbrev are_same : Bool → Bool → Bool
are_same true t = t
are_same false t = not t

same_answer : (s t : Bool) → are_same s t ≡ true → s ≡ t
same_answer true t h = sym h
same_answer false true h = absurd (false≢true h)
same_answer false false h = refl

-- the lane of a byte is set exactly where the byte is a character: seen of each of the 256
lane_is : (x : ℕ) → x < 256 → top 7 (lane x) ≡ is_crypt_character x
lane_is x small =
    same_answer (top 7 (lane x)) (is_crypt_character x)
    (at_below 256 (λ y. are_same (top 7 (lane y)) (is_crypt_character y)) refl x small)

one_is_set : (t : Bool) (m : ℕ) → m ≡ cond {A = ℕ} t 1 0 → m ≡ 1 → t ≡ true
one_is_set true m is one = refl
one_is_set false m is one = absurd (omega (arith, is, one))

pub all_from_mask : (bytes : List ℕ) (i : ℕ) → i + 16 ≤ length bytes → ((k : ℕ) → slice_index bytes k < 256)
    → eqb (mask_l (map (top 7) (lanes 16 (take 16 (drop i bytes)))) % 2 ^ 64) 65535 ≡ true
    → (k : ℕ) → i ≤ k → k < i + 16 → is_crypt_character (slice_index bytes k) ≡ true
all_from_mask bytes i room small all k from below =
    let v = take 16 (drop i bytes) in
    let long : length v ≡ 16 = length-chunk i 16 bytes (omega (arith, room)) in
    let each = map lane v in
    let many : length each ≡ 16 = length-map v lane ∙ long in
    let tops = map (top 7) each in
    let few : length tops ≡ 16 = length-map each (top 7) ∙ many in
    let j = k - i in
    let low : j < 16 = omega (arith, from, below) in
    let is : mask_l tops ≡ 65535 =
    sym (ap (λ l. mask_l (map (top 7) l) % 2 ^ 64) (lanes_are 16 v long)
    ∙ mask_l-mod tops 64 (omega (arith, few))) ∙ eqb-true _ _ all in
    let set : get_or tops j false ≡ true =
    one_is_set (get_or tops j false) (mask_l tops / 2 ^ j % 2) (bit_mask_l tops j)
    (ap (λ m. m / 2 ^ j % 2) is ∙ bit_at_ones 16 j low) in
    let there : i + j ≡ k = omega arith in
    let x : get_or v j 0 ≡ slice_index bytes k = get_or-chunk i 16 bytes j 0 low ∙ ap (slice_index bytes) there in
    sym (lane_is (slice_index bytes k) (small k))
    ∙ ap (top 7) (sym (get_or-map lane v j 0 0 (omega (arith, long, low)) ∙ ap lane x))
    ∙ sym (get_or-map (top 7) each j 0 false (omega (arith, many, low))) ∙ set
