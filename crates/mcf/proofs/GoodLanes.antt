-- The test of sixteen bytes of fields and their neighbours, lane by lane.
use Rattle.std.proofs.Common.{◌≡◌, ℕ, zero, suc, ◌+◌, ◌-◌, ◌≤◌, ◌<◌, ◌%◌, ◌^◌, ◌∙◌, Bool, true, false, not, List, []}
use Rattle.std.proofs.Common.{◌∷◌, sym, ap, refl, cond, length, map, replicate, take, drop, get_or, slice_index, eqb}
use Rattle.std.proofs.Common.{ltb, eqb-true, bit_and, bit_or, arith, ◌/◌}
use Rattle.std.specs.Prelude.{◌||◌, ◌&&◌}
use Rattle.std.proofs.lemmas.List.{get_or-map, length-map}
use Rattle.std.proofs.lemmas.Nat.Bits.{bit_at_ones}
use Rattle.std.proofs.lemmas.Simd.{length-chunk, length-zip2, get_or-chunk, get_or-zip2, bit_mask_l, mask_l-mod}
use Rattle.std.specs.Simd.Lanes.{zip2, mask_l, top}
use Rattle.mcf.specs.Clean.{is_good, AreGood}
use Rattle.mcf.proofs.FieldBytes.{ranges_tell}

-- all ones, or none
abbrev full : Bool → ℕ
full t = cond t 255 0

or_full : (s t : Bool) → bit_or (full s) (full t) ≡ full (s || t)
or_full true true = refl
or_full true false = refl
or_full false true = refl
or_full false false = refl

and_full : (s t : Bool) → bit_and (full s) (full t) ≡ full (s && t)
and_full true true = refl
and_full true false = refl
and_full false true = refl
and_full false false = refl

-- the test of a byte and the next
abbrev lane : ℕ → ℕ → ℕ
lane x y = bit_or (bit_or (bit_or (full (ltb ((x + 213) % 256) 15)) (full (ltb ((bit_or x 32 + 159) % 256) 26)))
    (full (eqb x 61)))
    (bit_and (full (eqb x 36)) (full (not (eqb y 36))))

-- the tests of two vectors of n lanes
abbrev lanes : ℕ → List ℕ → List ℕ → List ℕ
lanes n v w = zip2 bit_or (zip2 bit_or (zip2 bit_or
    (zip2 (λ a b. full (ltb a b)) (zip2 (λ a b. (a + (256 - b)) % 256) v (replicate n 43)) (replicate n 15))
    (zip2 (λ a b. full (ltb a b))
    (zip2 (λ a b. (a + (256 - b)) % 256) (zip2 bit_or v (replicate n 32)) (replicate n 97)) (replicate n 26)))
    (zip2 (λ a b. full (eqb a b)) v (replicate n 61)))
    (zip2 bit_and (zip2 (λ a b. full (eqb a b)) v (replicate n 36))
    (zip2 (λ a b. full (not (eqb a b))) w (replicate n 36)))

lanes_are : (n : ℕ) (v w : List ℕ) → length v ≡ n → length w ≡ n → lanes n v w ≡ zip2 lane v w
lanes_are zero [] [] p q = refl
lanes_are zero (x ∷ v) w p q = absurd (omega (arith, p))
lanes_are zero [] (y ∷ w) p q = absurd (omega (arith, q))
lanes_are (suc n) [] w p q = absurd (omega (arith, p))
lanes_are (suc n) (x ∷ v) [] p q = absurd (omega (arith, q))
lanes_are (suc n) (x ∷ v) (y ∷ w) p q = ap (λ l. lane x y ∷ l) (lanes_are n v w (omega (arith, p)) (omega (arith, q)))

top_full : (t : Bool) → top 7 (full t) ≡ t
top_full true = refl
top_full false = refl

lane_tells : (x y : ℕ) → x < 256 → top 7 (lane x y) ≡ is_good x y
lane_tells x y small =
    let s = ltb ((x + 213) % 256) 15 in
    let l = ltb ((bit_or x 32 + 159) % 256) 26 in
    ap (λ m. top 7 (bit_or (bit_or m (full (eqb x 61))) (bit_and (full (eqb x 36)) (full (not (eqb y 36))))))
    (or_full s l)
    ∙ ap (λ m. top 7 (bit_or m (bit_and (full (eqb x 36)) (full (not (eqb y 36)))))) (or_full (s || l) (eqb x 61))
    ∙ ap (λ m. top 7 (bit_or (full ((s || l) || eqb x 61)) m)) (and_full (eqb x 36) (not (eqb y 36)))
    ∙ ap (top 7) (or_full ((s || l) || eqb x 61) (eqb x 36 && not (eqb y 36)))
    ∙ top_full (((s || l) || eqb x 61) || (eqb x 36 && not (eqb y 36)))
    ∙ ap (λ t. t || (eqb x 36 && not (eqb y 36))) (ranges_tell x small)

told : (t : Bool) → cond {A = ℕ} t 1 0 ≡ 1 → t ≡ true
told true h = refl
told false h = absurd (omega (arith, h))

pub good_from_mask : (bytes : List ℕ) (i : ℕ) → i + 17 ≤ length bytes → ((k : ℕ) → slice_index bytes k < 256)
    → eqb (mask_l (map (top 7) (lanes 16 (take 16 (drop i bytes)) (take 16 (drop (i + 1) bytes)))) % 2 ^ 64) 65535
    ≡ true
    → AreGood bytes i (i + 16)
good_from_mask bytes i room small all k from below =
    let v = take 16 (drop i bytes) in
    let w = take 16 (drop (i + 1) bytes) in
    let long : length v ≡ 16 = length-chunk i 16 bytes (omega (arith, room)) in
    let wide : length w ≡ 16 = length-chunk (i + 1) 16 bytes (omega (arith, room)) in
    let each = zip2 lane v w in
    let many : length each ≡ 16 = length-zip2 lane v w (long ∙ sym wide) ∙ long in
    let tops = map (top 7) each in
    let few : length tops ≡ 16 = length-map each (top 7) ∙ many in
    let j = k - i in
    let low : j < 16 = omega (arith, from, below) in
    let is : mask_l tops ≡ 65535 =
    sym (ap (λ l. mask_l (map (top 7) l) % 2 ^ 64) (lanes_are 16 v w long wide)
    ∙ mask_l-mod tops 64 (omega (arith, few))) ∙ eqb-true _ _ all in
    let set : get_or tops j false ≡ true =
    told (get_or tops j false) (sym (bit_mask_l tops j) ∙ ap (λ m. m / 2 ^ j % 2) is ∙ bit_at_ones 16 j low) in
    let there : i + j ≡ k = omega arith in
    let next : i + 1 + j ≡ k + 1 = omega arith in
    let x : get_or v j 0 ≡ slice_index bytes k = get_or-chunk i 16 bytes j 0 low ∙ ap (slice_index bytes) there in
    let y : get_or w j 0 ≡ slice_index bytes (k + 1) =
    get_or-chunk (i + 1) 16 bytes j 0 low ∙ ap (slice_index bytes) next in
    sym (lane_tells (slice_index bytes k) (slice_index bytes (k + 1)) (small k))
    ∙ ap (top 7) (sym (get_or-zip2 lane v w j 0 0 0 (omega (arith, long, low)) (omega (arith, wide, low))
    ∙ ap (λ a. lane a (get_or w j 0)) x ∙ ap (lane (slice_index bytes k)) y))
    ∙ sym (get_or-map (top 7) each j 0 false (omega (arith, many, low))) ∙ set
