-- Four characters at a time in the other order, step by step.
use Rattle.std.proofs.Common.{◌≡◌, ℕ, ◌≤◌, ◌<◌, List, [], ◌∷◌, ◌++◌, length, refl, ap, ◌∙◌, sym, arith, append_assoc}
use Rattle.std.specs.Prelude.{drop}
use Rattle.std.proofs.lemmas.List.{append-nil}
use Rattle.foreign_text.specs.Aix.{four, fours_turned}

pub turned_step : (xs : List ℕ) → 4 ≤ length xs → fours_turned xs ≡ four xs ++ fours_turned (drop 4 xs)
unfolding fours_turned
turned_step (a ∷ (b ∷ (c ∷ (d ∷ rest)))) long = refl
turned_step [] long = absurd (omega (arith, long))
turned_step (a ∷ []) long = absurd (omega (arith, long))
turned_step (a ∷ (b ∷ [])) long = absurd (omega (arith, long))
turned_step (a ∷ (b ∷ (c ∷ []))) long = absurd (omega (arith, long))

pub turned_short : (xs : List ℕ) → length xs < 4 → fours_turned xs ≡ []
unfolding fours_turned
turned_short (a ∷ (b ∷ (c ∷ (d ∷ rest)))) short = absurd (omega (arith, short))
turned_short [] short = refl
turned_short (a ∷ []) short = refl
turned_short (a ∷ (b ∷ [])) short = refl
turned_short (a ∷ (b ∷ (c ∷ []))) short = refl

pub one_more : (turned xs whole : List ℕ) → 4 ≤ length xs → turned ++ fours_turned xs ≡ whole
    → (turned ++ four xs) ++ fours_turned (drop 4 xs) ≡ whole
one_more turned xs whole long is =
    append_assoc turned (four xs) (fours_turned (drop 4 xs)) ∙ ap (λ (t : List ℕ). turned ++ t) (sym (turned_step xs long)) ∙ is

pub all_turned : (turned xs whole : List ℕ) → length xs < 4 → turned ++ fours_turned xs ≡ whole → turned ≡ whole
all_turned turned xs whole short is =
    sym (append-nil turned) ∙ ap (λ (t : List ℕ). turned ++ t) (sym (turned_short xs short)) ∙ is
