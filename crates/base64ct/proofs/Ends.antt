-- The one line ending at the end of a text.
use Rattle.std.proofs.Common.{◌≡◌, ℕ, zero, suc, ◌<◌, ◌≤◌, ◌==◌, ◌&&◌, ◌||◌, true, false, List, [], ◌∷◌, length, take}
use Rattle.std.proofs.Common.{refl, sym, ap, ◌∙◌, arith, inl, inr, slice_index}
use Rattle.std.specs.Prelude.{◌⊎◌}
use Rattle.std.proofs.lemmas.Bool.{cases_Bool, eqb-true, and_parts}
use Rattle.base64ct.specs.Wrapping.{without_end}
use Rattle.base64ct.specs.Wrapping.{HoldsOnlyEnds}

pub end_one : (i : ℕ) (text : List ℕ) → length text ≡ suc i
    → ((slice_index text i == 13) || (slice_index text i == 10)) ≡ true
    → ((j : ℕ) → i ≡ suc j → ((slice_index text j == 13) && (slice_index text (suc j) == 10)) ≡ false)
    → without_end text ≡ take i text
unfolding without_end
end_one zero [] len is not = absurd (omega arith)
end_one zero (c ∷ []) len is not = rw is refl
end_one zero (c ∷ d ∷ rest) len is not = absurd (omega arith)
end_one (suc zero) [] len is not = absurd (omega arith)
end_one (suc zero) (c ∷ []) len is not = absurd (omega arith)
end_one (suc zero) (c ∷ d ∷ []) len is not = rw (not 0 refl, is) refl
end_one (suc zero) (c ∷ d ∷ e ∷ rest) len is not = absurd (omega arith)
end_one (suc (suc i)) [] len is not = absurd (omega arith)
end_one (suc (suc i)) (c ∷ []) len is not = absurd (omega arith)
end_one (suc (suc i)) (c ∷ d ∷ []) len is not = absurd (omega arith)
end_one (suc (suc i)) (c ∷ d ∷ e ∷ rest) len is not =
    ap (λ (t : List ℕ). c ∷ t) (end_one (suc i) (d ∷ e ∷ rest) (omega arith) is (λ j eq. not (suc j) (ap suc eq)))

pub end_two : (i : ℕ) (text : List ℕ) → length text ≡ suc (suc i) → slice_index text i ≡ 13
    → slice_index text (suc i) ≡ 10 → without_end text ≡ take i text
unfolding without_end
end_two i [] len cr lf = absurd (omega arith)
end_two i (c ∷ []) len cr lf = absurd (omega arith)
end_two zero (c ∷ d ∷ []) len cr lf = rw (cr, lf) refl
end_two zero (c ∷ d ∷ e ∷ rest) len cr lf = absurd (omega arith)
end_two (suc i) (c ∷ d ∷ []) len cr lf = absurd (omega arith)
end_two (suc i) (c ∷ d ∷ e ∷ rest) len cr lf = ap (λ (t : List ℕ). c ∷ t) (end_two i (d ∷ e ∷ rest) (omega arith) cr lf)

pub end_none : (i : ℕ) (text : List ℕ) → length text ≡ suc i → (slice_index text i == 13) ≡ false
    → (slice_index text i == 10) ≡ false → without_end text ≡ text
unfolding without_end
end_none i [] len cr lf = absurd (omega arith)
end_none zero (c ∷ []) len cr lf = rw (cr, lf) refl
end_none zero (c ∷ d ∷ rest) len cr lf = absurd (omega arith)
end_none (suc i) (c ∷ []) len cr lf = absurd (omega arith)
end_none (suc zero) (c ∷ d ∷ []) len cr lf =
    elim (cases_Bool (c == 13)) [ inl yes1 ↦ rw (yes1, lf, cr) refl | inr no1 ↦ rw (no1, cr, lf) refl ]
end_none (suc zero) (c ∷ d ∷ e ∷ rest) len cr lf = absurd (omega arith)
end_none (suc (suc i)) (c ∷ d ∷ []) len cr lf = absurd (omega arith)
end_none (suc (suc i)) (c ∷ d ∷ e ∷ rest) len cr lf =
    ap (λ (t : List ℕ). c ∷ t) (end_none (suc i) (d ∷ e ∷ rest) (omega arith) cr lf)

-- a body that is empty is left of line endings alone
pub ends_only : (text : List ℕ) → without_end text ≡ [] → HoldsOnlyEnds text
unfolding without_end
ends_only [] e i lt = absurd (omega arith)
ends_only (c ∷ []) e i lt = elim (cases_Bool ((c == 13) || (c == 10))) [
  | inl is ↦ elim (cases_Bool (c == 13)) [
    | inl cr ↦ inl (at_first i lt (eqb-true c 13 cr))
    | inr not ↦ inr (at_first i lt (eqb-true c 10 (rw not at is)))
  ]
  | inr other ↦ let n = ap length (rw other at e) in absurd (omega arith)
]
  where
    at_first : {v : ℕ} (i : ℕ) → i < length (c ∷ []) → c ≡ v → slice_index (c ∷ []) i ≡ v
    at_first zero lt is = is
    at_first (suc i) lt is = absurd (omega arith)
ends_only (c ∷ d ∷ []) e i lt = elim (cases_Bool ((c == 13) && (d == 10))) [
  | inl both ↦ let parts = and_parts _ _ both in at_second i lt (eqb-true c 13 parts.0) (eqb-true d 10 parts.1)
  | inr other ↦ let n = ap length (rw other at e) in absurd (omega arith)
]
  where
    at_second : (i : ℕ) → i < length (c ∷ d ∷ []) → c ≡ 13 → d ≡ 10
        → (slice_index (c ∷ d ∷ []) i ≡ 13) ⊎ (slice_index (c ∷ d ∷ []) i ≡ 10)
    at_second zero lt cr lf = inl cr
    at_second (suc zero) lt cr lf = inr lf
    at_second (suc (suc i)) lt cr lf = absurd (omega arith)
ends_only (c ∷ d ∷ f ∷ rest) e i lt = let n = ap length e in absurd (omega arith)

pub end_nil : (text : List ℕ) → length text ≡ 0 → [] ≡ without_end text
unfolding without_end
end_nil [] len = refl
end_nil (c ∷ text) len = absurd (omega arith)

pub end_cr : (i : ℕ) (text : List ℕ) → length text ≡ suc i → slice_index text i ≡ 13 → without_end text ≡ take i text
end_cr i text len cr = end_one i text len (rw cr refl)
    (λ j eq. no_lf j (ap (λ (k : ℕ). slice_index text k) (sym eq) ∙ cr))
  where
    no_lf : (j : ℕ) → slice_index text (suc j) ≡ 13
        → ((slice_index text j == 13) && (slice_index text (suc j) == 10)) ≡ false
    no_lf j e = rw e (elim (cases_Bool (slice_index text j == 13)) [ inl yes1 ↦ rw yes1 refl | inr no1 ↦ rw no1 refl ])

pub end_lf : (j i : ℕ) (text : List ℕ) → i ≡ suc j → length text ≡ suc i → slice_index text i ≡ 10
    → (slice_index text j == 13) ≡ false → without_end text ≡ take i text
end_lf j i text is len lf not =
    end_one i text len (rw lf refl) (λ k eq. let same : k ≡ j = omega arith in rw (same, not) refl)

pub end_single : (text : List ℕ) (i : ℕ) → i ≡ 0 → length text ≡ 1 → slice_index text i ≡ 10 → [] ≡ without_end text
end_single text i is len lf =
    sym (end_one i text (omega arith) (rw lf refl) (λ j eq. absurd (omega arith)) ∙ rw is refl)

pub end_short : (text : List ℕ) → length (without_end text) ≤ length text
unfolding without_end
end_short [] = omega arith
end_short (c ∷ []) = elim (cases_Bool ((c == 13) || (c == 10))) [
  | inl is ↦ rw is (omega arith)
  | inr other ↦
      rw other (omega arith)
]
end_short (c ∷ d ∷ []) = elim (cases_Bool ((c == 13) && (d == 10))) [
  | inl is ↦ rw is (omega arith)
  | inr other ↦ elim (cases_Bool ((d == 13) || (d == 10))) [
    | inl one ↦ rw (other, one) (omega arith)
    | inr none ↦
        rw (other, none) (omega arith)
  ]
]
end_short (c ∷ d ∷ f ∷ rest) = omega (arith, end_short (d ∷ f ∷ rest))
