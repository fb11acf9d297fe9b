-- What is found has what was looked for; and how a search goes on.
use Rattle.std.proofs.Common.{◌≡◌, ℕ, zero, suc, ◌+◌, Bool, true, false, List, [], ◌∷◌, drop, refl, sym, ap, subst, add-one}
use Rattle.std.proofs.Common.{Option, Some}
use Rattle.std.specs.List.{slice_get}
use Rattle.std.specs.Prelude.{if◌then◌else◌}
use Rattle.scheme_list.specs.Schemes.{look_up}
use Rattle.scheme_list.specs.declared.schemes.Scheme.{Scheme}

by_test : (holds : Scheme → Bool) (t : Bool) (scheme found : Scheme) (rest : Option Scheme) → holds scheme ≡ t
    → (if t then Some scheme else rest) ≡ Some found → (rest ≡ Some found → holds found ≡ true) → holds found ≡ true
by_test holds true scheme found rest is h later = let same : scheme ≡ found = cc in subst (λ (s : Scheme). holds s ≡ true) same is
by_test holds false scheme found rest is h later = later h

pub found_holds : (holds : Scheme → Bool) (list : List Scheme) (found : Scheme) → look_up holds list ≡ Some found
    → holds found ≡ true
found_holds holds [] found h = absurd cc
found_holds holds (scheme ∷ others) found h =
    by_test holds (holds scheme) scheme found (look_up holds others) refl h (found_holds holds others found)

-- ---- the list from a place on

dropped : (xs : List Scheme) (k : ℕ) (s : Scheme) → slice_get xs k ≡ Some s → drop k xs ≡ s ∷ drop (suc k) xs
dropped [] k s is = absurd cc
dropped (x ∷ xs) zero s is = let same : x ≡ s = cc in ap (λ (y : Scheme). y ∷ xs) same
dropped (x ∷ xs) (suc k) s is = dropped xs k s is

pub found_further : (holds : Scheme → Bool) (xs : List Scheme) (k : ℕ) (s : Scheme) → slice_get xs k ≡ Some s
    → holds s ≡ false → look_up holds (drop k xs) ≡ look_up holds (drop (k + 1) xs)
found_further holds xs k s is other =
    rw (dropped xs k s is, other) (ap (λ (n : ℕ). look_up holds (drop n xs)) (sym (add-one k)))
