-- A text that lacks `$`, and one behind it.
use Rattle.std.proofs.Common.{◌≡◌, ℕ, true, List, [], ◌∷◌, ◌++◌, length}
use Rattle.std.proofs.Common.{refl, sym, ap, ◌∙◌, arith, get_or}
use Rattle.std.specs.List.{position_or_len}
use Rattle.std.proofs.lemmas.List.{length-append}
use Rattle.std.proofs.lemmas.List.Sums.{position_or_len_is}
use Rattle.std.proofs.Math.ListN.{get_or-append}
use Rattle.std.proofs.Math.Seq.{drop-append-add, get_or-append_seam, take-append_seam}
use Rattle.pieces.specs.Pieces.{LacksByte}
use Rattle.crypt_text.specs.Settings.{after_dollar, before_dollar, before_last_dollar, has_dollar, is_dollar}
use Rattle.crypt_text.proofs.Dollars.{has_none, not_here, or_true, other, same}

cut_place : (xs ys : List ℕ) → LacksByte 36 xs → position_or_len is_dollar (xs ++ 36 ∷ ys) ≡ length xs
cut_place xs ys lacks =
    position_or_len_is is_dollar (xs ++ 36 ∷ ys) (length xs) 0 (omega (arith, length-append xs (36 ∷ ys)))
    (λ k below. other (get_or (xs ++ 36 ∷ ys) k 0) (λ e. lacks k below (sym (get_or-append xs (36 ∷ ys) 0 k below) ∙ e)))
    (λ inside. same (get_or (xs ++ 36 ∷ ys) (length xs) 0) (get_or-append_seam xs 36 ys 0))

pub before_cut : (xs ys : List ℕ) → LacksByte 36 xs → before_dollar (xs ++ 36 ∷ ys) ≡ xs
before_cut xs ys lacks = rw (cut_place xs ys lacks) (take-append_seam xs (36 ∷ ys))

pub after_cut : (xs ys : List ℕ) → LacksByte 36 xs → after_dollar (xs ++ 36 ∷ ys) ≡ ys
after_cut xs ys lacks =
    rw (cut_place xs ys lacks) (drop-append-add xs (36 ∷ ys) 1)

pub has_cut : (xs ys : List ℕ) → has_dollar (xs ++ 36 ∷ ys) ≡ true
has_cut [] ys = refl
has_cut (x ∷ xs) ys = rw (has_cut xs ys) (or_true (is_dollar x))

-- the last `$` is the first one, where none stands behind it
pub before_last_cut : (xs ys : List ℕ) → LacksByte 36 ys → before_last_dollar (xs ++ 36 ∷ ys) ≡ xs
unfolding before_last_dollar
before_last_cut [] ys lacks = rw (has_none ys lacks) refl
before_last_cut (x ∷ xs) ys lacks =
    rw (has_cut xs ys) (not_here (is_dollar x) x (before_last_dollar (xs ++ 36 ∷ ys)))
    ∙ ap (λ (t : List ℕ). x ∷ t) (before_last_cut xs ys lacks)
