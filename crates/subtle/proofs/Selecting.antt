-- Lists of which a prefix has been selected.
use Rattle.std.proofs.Common.{◌≡◌, ℕ, zero, suc, ◌<◌, Bool, true, false, cond, List, [], ◌∷◌, ◌++◌, length, take, drop}
use Rattle.std.proofs.Common.{set, get_or, refl, ap, arith}

-- a prefix of one list before the rest of another, grown by one
pub prefix_grows : {X : Type 0} (xs ys : List X) (i : ℕ) (d : X) → i < length xs → i < length ys
    → set (take i xs ++ drop i ys) i (get_or xs i d) ≡ take (suc i) xs ++ drop (suc i) ys
prefix_grows [] ys i d h k = absurd (omega (arith, h))
prefix_grows (x ∷ xs) [] i d h k = absurd (omega (arith, k))
prefix_grows (x ∷ xs) (y ∷ ys) zero d h k = refl
prefix_grows (x ∷ xs) (y ∷ ys) (suc i) d h k =
    ap (λ r. x ∷ r) (prefix_grows xs ys i d (omega (arith, h)) (omega (arith, k)))

-- the same, where the prefix is of one of two lists
pub selection_grows : {X : Type 0} (c : Bool) (xs ys : List X) (i : ℕ) (d e : X) → i < length xs → i < length ys
    → set (take i (cond c ys xs) ++ drop i xs) i (cond c (get_or ys i e) (get_or xs i d)) ≡ take (suc i) (cond c ys xs)
    ++ drop (suc i) xs
selection_grows true xs ys i d e h k = prefix_grows ys xs i e k h
selection_grows false xs ys i d e h k = prefix_grows xs xs i d h h
