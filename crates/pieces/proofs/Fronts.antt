-- What `strip_prefix` gives, and that a text has a piece.
use Rattle.std.proofs.Common.{◌≡◌, ℕ, ◌+◌, Bool, true, false, List, [], ◌∷◌, length, drop, refl, sym, subst, ap, ◌∙◌}
use Rattle.std.proofs.Common.{eqb-true, arith}
use Rattle.std.specs.Prelude.{◌==◌, Option, Some, None, MatchOption}
use Rattle.std.specs.Borrow.{Bor}
use Rattle.std.specs.Str.Pattern.{FindsTextPrefix}
use Rattle.std.specs.Str.{IsCharBoundary}
use Rattle.std.proofs.lemmas.Bool.Decides.{nat_tests}
use Rattle.std.proofs.lemmas.Str.Pattern.{starts_text}
use Rattle.std.proofs.lemmas.Option.{none-some}
use Rattle.pieces.specs.Pieces.{pieces_at, pieces_left, lent, behind}
use Rattle.pieces.specs.Lists.{is_empty}
use Rattle.pieces.proofs.Cuts.{cut_in_front, cut_of, same_byte}

pub left_none : (c : ℕ) → true ≡ is_empty (pieces_left c None)
left_none c = refl

pub left_some : (c : ℕ) (text : List ℕ) → false ≡ is_empty (pieces_at c text)
left_some c text = sym (ap is_empty (cut_of c text).are)

pub behind_is : (text front : List ℕ) (r : Option (Bor (List ℕ)))
    → MatchOption r (FindsTextPrefix front text None) (λ x. (n : ℕ) × FindsTextPrefix front text (Some n)
    × (x.now ≡ drop n text) × (length x.now + n ≡ length text))
    → lent r ≡ behind text front
behind_is text front None h = let no = starts_text false front text h in rw (← no) refl
behind_is text front (Some x) h =
    let boundary : IsCharBoundary text h.0 = rw h.1.0 h.1.2 in
    let yes = starts_text true front text (h.0, h.1, boundary) in
    rw (← yes) (ap Some (h.2 ∙ ap (λ k. drop k text) h.1.0))

-- what stands behind the cut with which a text begins
pub behind_cut : (c : ℕ) (text body : List ℕ) → behind text (c ∷ []) ≡ Some body
    → pieces_at c text ≡ [] ∷ pieces_at c body
behind_cut c [] body is = cc
behind_cut c (b ∷ text) body is = by_test (c == b) refl is
  where
    by_test : (t : Bool) → (c == b) ≡ t → behind (b ∷ text) (c ∷ []) ≡ Some body
        → pieces_at c (b ∷ text) ≡ [] ∷ pieces_at c body
    by_test true same is =
        let e : b ≡ c = sym (eqb-true _ _ same) in
        let front : behind (c ∷ text) (c ∷ []) ≡ Some body =
        subst (λ (x : ℕ). behind (x ∷ text) (c ∷ []) ≡ Some body) e is in
        let found : behind (c ∷ text) (c ∷ []) ≡ Some text = rw (same_byte c) refl in
        let rest : Some text ≡ Some body = sym found ∙ front in
        let inner : text ≡ body = cc in
        ap (λ (x : ℕ). pieces_at c (x ∷ text)) e ∙ cut_in_front c text ∙ ap (λ t. [] ∷ pieces_at c t) inner
    by_test false same is =
        let none : behind (b ∷ text) (c ∷ []) ≡ None = rw same refl in
        absurd (none-some body (sym none ∙ is))

-- a text that doesn't begin with the cut is empty, or its first piece isn't
pub no_cut_in_front : (c b : ℕ) (text : List ℕ) → behind (b ∷ text) (c ∷ []) ≡ None → (b == c) ≡ false
no_cut_in_front c b text is = by_test (c == b) refl is
  where
    by_test : (t : Bool) → (c == b) ≡ t → behind (b ∷ text) (c ∷ []) ≡ None → (b == c) ≡ false
    by_test true same is =
        let found : behind (b ∷ text) (c ∷ []) ≡ Some text = rw same refl in
        absurd (none-some text (sym is ∙ found))
    by_test false same is = grind (arith, nat_tests, same)
