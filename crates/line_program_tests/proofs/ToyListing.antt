-- Notes: a listing, one text after the other.
use Rattle.std.proofs.Common.{◌≡◌, ℕ, ◌+◌, ◌<◌, zero, suc, List, [], ◌∷◌, ◌++◌, length, get_or, take, map, sym, ap, ◌∙◌}
use Rattle.std.proofs.Common.{append_assoc, add-one, arith}
use Rattle.line_io.proofs.Moved.{append-nil}
use Rattle.line_program_tests.specs.Toys.{listing}

listing_suc : {A : Type 0} (f : A → List ℕ) (i : ℕ) (xs : List A) (d : A) → i < length xs
    → listing (map f (take (suc i) xs)) ≡ listing (map f (take i xs)) ++ f (get_or xs i d) ++ 10 ∷ []
listing_suc f i [] d within = absurd (omega arith)
listing_suc f zero (x ∷ xs) d within = append-nil (f x ++ 10 ∷ [])
listing_suc f (suc i) (x ∷ xs) d within =
    ap (λ zs. (f x ++ 10 ∷ []) ++ zs)
    (listing_suc f i xs d (omega arith) ∙ append_assoc (listing (map f (take i xs))) (f (get_or xs i d)) (10 ∷ []))
    ∙ sym (append_assoc (f x ++ 10 ∷ []) (listing (map f (take i xs))) (f (get_or xs i d) ++ 10 ∷ []))
    ∙ sym (append_assoc ((f x ++ 10 ∷ []) ++ listing (map f (take i xs))) (f (get_or xs i d)) (10 ∷ []))

-- one more text
pub listing_step : {A : Type 0} (f : A → List ℕ) (i : ℕ) (xs : List A) (d : A) → i < length xs
    → listing (map f (take (i + 1) xs)) ≡ listing (map f (take i xs)) ++ f (get_or xs i d) ++ 10 ∷ []
listing_step f i xs d within = ap (λ n. listing (map f (take n xs))) (add-one i) ∙ listing_suc f i xs d within
