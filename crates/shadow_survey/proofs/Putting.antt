-- How rows and texts go on.
use Rattle.std.proofs.Common.{◌≡◌, ℕ, zero, suc, ◌+◌, ◌<◌, List, [], ◌∷◌, ◌++◌, length, take, slice_index, refl, sym, ap, ◌∙◌}
use Rattle.std.proofs.Common.{append_assoc, add-one, arith, Some}
use Rattle.std.specs.List.{flat_map, slice_get}
use Rattle.std.proofs.lemmas.List.{append-nil}
use Rattle.shadow_survey.specs.Counting.{count_of, total_row}
use Rattle.shadow_survey.specs.Rows.{shown, shown_after}
use Rattle.shadow_survey.specs.declared.cells.Format.{Format}
use Rattle.shadow_survey.specs.declared.counts.Counts.{Counts}
use Rattle.shadow_survey.specs.declared.counts.Kind.{Kind}

next : {X : Type 0} → (f : X → List ℕ) (xs : List X) (i : ℕ) (x : X) → slice_get xs i ≡ Some x
    → flat_map f (take (suc i) xs) ≡ flat_map f (take i xs) ++ f x
next f [] i x is = absurd cc
next f (y ∷ xs) zero x is = let same : y ≡ x = cc in append-nil (f y) ∙ ap f same
next f (y ∷ xs) (suc i) x is =
    ap (λ (t : List ℕ). f y ++ t) (next f xs i x is)
    ∙ sym (append_assoc (f y) (flat_map f (take i xs)) (f x))

-- one more element
pub flat_next : {X : Type 0} → (f : X → List ℕ) (xs : List X) (i : ℕ) (x : X) → slice_get xs i ≡ Some x
    → flat_map f (take (i + 1) xs) ≡ flat_map f (take i xs) ++ f x
flat_next f xs i x is = ap (λ (n : ℕ). flat_map f (take n xs)) (add-one i) ∙ next f xs i x is

-- a kind of which there is none
pub total_none : (counts : Counts) (kind : Kind) → count_of counts kind ≡ 0 → total_row counts kind ≡ []
total_none counts kind none = rw none refl

-- ---- a text byte by byte

more : (format : Format) (before : ℕ) (xs : List ℕ) (i : ℕ) → i < length xs
    → shown_after format before (take (suc i) xs)
    ≡ shown_after format before (take i xs) ++ shown format (slice_index (before ∷ xs) i) (slice_index xs i)
more format before [] i lt = absurd (omega arith)
more format before (x ∷ xs) zero lt = append-nil (shown format before x)
more format before (x ∷ xs) (suc i) lt =
    ap (λ (t : List ℕ). shown format before x ++ t) (more format x xs i (omega arith))
    ∙ sym (append_assoc (shown format before x) (shown_after format x (take i xs))
    (shown format (slice_index (x ∷ xs) i) (slice_index xs i)))

-- one more byte
pub shown_next : (format : Format) (before : ℕ) (xs : List ℕ) (i : ℕ) → i < length xs
    → shown_after format before (take (i + 1) xs)
    ≡ shown_after format before (take i xs) ++ shown format (slice_index (before ∷ xs) i) (slice_index xs i)
shown_next format before xs i lt =
    ap (λ (n : ℕ). shown_after format before (take n xs)) (add-one i) ∙ more format before xs i lt

-- the byte before the next one
pub before_next : (before : ℕ) (xs : List ℕ) (i : ℕ) → slice_index (before ∷ xs) (i + 1) ≡ slice_index xs i
before_next before xs i = ap (λ (n : ℕ). slice_index (before ∷ xs) n) (add-one i)
