-- Sixteen bytes compared with 128.
use Rattle.std.proofs.Common.{◌≡◌, ℕ, ◌+◌, ◌≤◌, ◌<◌, ◌%◌, ◌^◌, ◌∙◌, true, List, sym, ap, cond, length, map, replicate}
use Rattle.std.proofs.Common.{take, drop, slice_index, eqb, leb, leb-false, eqb-true, arith, w8}
use Rattle.std.proofs.lemmas.List.{length-map}
use Rattle.std.proofs.lemmas.Simd.{length-chunk, mask_l-mod, none_from_empty_mask, tops_compared, zip2_splat_left}
use Rattle.std.specs.Simd.Lanes.{zip2, mask_l, top}

pub low_from_mask : (bytes : List ℕ) (i : ℕ) → i + 16 ≤ length bytes
    → eqb (mask_l (map (top 7) (zip2 (λ a b. cond (leb a b) 255 0) (replicate 16 128) (take 16 (drop i bytes)))) % 2 ^
    64) 0 ≡ true
    → (k : ℕ) → i ≤ k → k < i + 16 → slice_index bytes k < 128
low_from_mask bytes i room none k from below =
    let v = take 16 (drop i bytes) in
    let long : length v ≡ 16 = length-chunk i 16 bytes room in
    let highs = map (λ x. leb 128 x) v in
    let few : length highs ≡ 16 = length-map v (λ x. leb 128 x) ∙ long in
    let is : mask_l (map (top 7) (zip2 (λ a b. cond (leb a b) 255 0) (replicate 16 128) v)) % 2 ^ 64 ≡ mask_l highs =
    ap (λ ms. mask_l ms % 2 ^ 64) (tops_compared w8 leb (replicate 16 128) v ∙ zip2_splat_left leb 128 16 v long)
    ∙ mask_l-mod highs 64 (omega (arith, few)) in
    leb-false 128 (slice_index bytes k)
    (none_from_empty_mask (λ x. leb 128 x) bytes i 16 0 room (sym is ∙ eqb-true _ _ none) k from below)
