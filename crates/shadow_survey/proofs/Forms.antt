-- How a search among the forms goes on.
use Rattle.std.proofs.Common.{◌≡◌, ℕ, zero, suc, ◌+◌, Bool, true, false, List, [], ◌∷◌, drop, refl, sym, ap, add-one, Some}
use Rattle.std.specs.List.{slice_get}
use Rattle.shadow_survey.specs.Unsupported.{first_form, form_of, forms, has_form}
use Rattle.shadow_survey.specs.declared.unsupported.UnsupportedForm.{UnsupportedForm}

dropped : (xs : List UnsupportedForm) (k : ℕ) (form : UnsupportedForm) → slice_get xs k ≡ Some form
    → drop k xs ≡ form ∷ drop (suc k) xs
dropped [] k form is = absurd cc
dropped (x ∷ xs) zero form is = let same : x ≡ form = cc in ap (λ (y : UnsupportedForm). y ∷ xs) same
dropped (x ∷ xs) (suc k) form is = dropped xs k form is

pub form_further : (holds : UnsupportedForm → Bool) (xs : List UnsupportedForm) (k : ℕ) (form : UnsupportedForm)
    → slice_get xs k ≡ Some form → holds form ≡ false
    → first_form holds (drop k xs) ≡ first_form holds (drop (k + 1) xs)
form_further holds xs k form is other =
    rw (dropped xs k form is, other) (ap (λ (n : ℕ). first_form holds (drop n xs)) (sym (add-one k)))

pub form_found : (holds : UnsupportedForm → Bool) (xs : List UnsupportedForm) (k : ℕ) (form : UnsupportedForm)
    → slice_get xs k ≡ Some form → holds form ≡ true → first_form holds (drop k xs) ≡ form
form_found holds xs k form is found = rw (dropped xs k form is, found) refl

pub from_first : (text : List ℕ) → form_of text ≡ first_form (has_form text) (drop 0 forms)
unfolding form_of
from_first text = refl
