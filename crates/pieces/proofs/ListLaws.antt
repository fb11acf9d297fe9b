-- Lists without elements, and decimals that don't begin with a zero.
use Rattle.std.proofs.Common.{◌≡◌, ℕ, ◌<◌, true, false, List, [], ◌∷◌, refl, arith, get_or}
use Rattle.std.proofs.lemmas.Bool.Decides.{nat_tests}
use Rattle.pieces.specs.Lists.{is_empty}
use Rattle.pieces.specs.Numbers.{has_leading_zero}

pub nil_of_empty : {A : Type 0} (xs : List A) → is_empty xs ≡ true → xs ≡ []
nil_of_empty [] h = refl
nil_of_empty (x ∷ xs) h = absurd cc

pub no_leading_zero : (s : List ℕ) → 48 < get_or s 0 0 → has_leading_zero s ≡ false
no_leading_zero [] h = refl
no_leading_zero (b ∷ []) h = refl
no_leading_zero (b ∷ (c ∷ s)) h =
    let big : 48 < b = h in
    grind (arith, nat_tests, big)
