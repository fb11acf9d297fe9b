-- An operation on two lists, element by element.
use Rattle.std.proofs.Common.{◌≡◌, ℕ, zero, suc, ◌+◌, ◌<◌, List, [], ◌∷◌, ◌++◌, length, take, drop, slice_index}
use Rattle.std.proofs.Common.{slice_set, refl, sym, ap, ap₂, ◌∙◌, arith, add-one}
use Rattle.std.specs.Simd.Lanes.{zip2}

zip2-nil : (f : ℕ → ℕ → ℕ) (xs : List ℕ) → zip2 f xs [] ≡ []
zip2-nil f [] = refl
zip2-nil f (x ∷ xs) = refl

pub take-zip2 : (f : ℕ → ℕ → ℕ) (n : ℕ) (xs ys : List ℕ) → take n (zip2 f xs ys) ≡ zip2 f (take n xs) (take n ys)
take-zip2 f zero xs ys = refl
take-zip2 f (suc n) [] ys = refl
take-zip2 f (suc n) (x ∷ xs) [] = refl
take-zip2 f (suc n) (x ∷ xs) (y ∷ ys) = ap (λ (z : List ℕ). f x y ∷ z) (take-zip2 f n xs ys)

pub drop-zip2 : (f : ℕ → ℕ → ℕ) (n : ℕ) (xs ys : List ℕ) → drop n (zip2 f xs ys) ≡ zip2 f (drop n xs) (drop n ys)
drop-zip2 f zero xs ys = refl
drop-zip2 f (suc n) [] ys = refl
drop-zip2 f (suc n) (x ∷ xs) [] = sym (zip2-nil f (drop n xs))
drop-zip2 f (suc n) (x ∷ xs) (y ∷ ys) = drop-zip2 f n xs ys

grown_at : (f : ℕ → ℕ → ℕ) (xs ys : List ℕ) (i : ℕ) → i < length xs → i < length ys
    → slice_index (zip2 f (take i xs) (take i ys) ++ drop i xs) i ≡ slice_index xs i
grown_at f [] ys i lx ly = absurd (omega arith)
grown_at f (x ∷ xs) [] i lx ly = absurd (omega arith)
grown_at f (x ∷ xs) (y ∷ ys) zero lx ly = refl
grown_at f (x ∷ xs) (y ∷ ys) (suc i) lx ly = grown_at f xs ys i (omega arith) (omega arith)

grown_more : (f : ℕ → ℕ → ℕ) (xs ys : List ℕ) (i : ℕ) → i < length xs → i < length ys
    → slice_set (zip2 f (take i xs) (take i ys) ++ drop i xs) i (f (slice_index xs i) (slice_index ys i))
    ≡ zip2 f (take (suc i) xs) (take (suc i) ys) ++ drop (suc i) xs
grown_more f [] ys i lx ly = absurd (omega arith)
grown_more f (x ∷ xs) [] i lx ly = absurd (omega arith)
grown_more f (x ∷ xs) (y ∷ ys) zero lx ly = refl
grown_more f (x ∷ xs) (y ∷ ys) (suc i) lx ly =
    ap (λ (z : List ℕ). f x y ∷ z) (grown_more f xs ys i (omega arith) (omega arith))

-- one element more, in a loop that writes f of both over the first
pub zip2_over_more : (f : ℕ → ℕ → ℕ) (xs ys zs : List ℕ) (i : ℕ) → length ys ≡ length xs → i < length xs
    → zs ≡ zip2 f (take i xs) (take i ys) ++ drop i xs
    → slice_set zs i (f (slice_index zs i) (slice_index ys i))
    ≡ zip2 f (take (i + 1) xs) (take (i + 1) ys) ++ drop (i + 1) xs
zip2_over_more f xs ys zs i same below e =
    let at = ap (λ (z : List ℕ). slice_index z i) e ∙ grown_at f xs ys i below (omega arith) in
    ap₂ (λ (z : List ℕ) (v : ℕ). slice_set z i (f v (slice_index ys i))) e at
    ∙ grown_more f xs ys i below (omega arith)
    ∙ ap (λ (n : ℕ). zip2 f (take n xs) (take n ys) ++ drop n xs) (sym (add-one i))
