-- What is owed for a line of a survey, by its cases.
use Rattle.std.proofs.Common.{◌≡◌, ◌∙◌, ℕ, true, false, List, [], length, refl, ap, sym}
use Rattle.std.specs.Prelude.{nat_lt}
use Rattle.shadow_survey.specs.Judgements.{judged}
use Rattle.shadow_survey.specs.Rows.{line_row, row_text, surveyed, surveyed_line}
use Rattle.shadow_survey.specs.declared.judgement.Judgement.{Judgement}
use Rattle.shadow_survey.specs.declared.judgement.Judgement.TheVariants.{TooLong}
use Rattle.shadow_survey.specs.declared.least.LeastCosts.{LeastCosts}
use Rattle.shadow_survey.specs.declared.cells.Format.{Format}

module _ (least : LeastCosts) (line : List ℕ) where
  pub of_short : nat_lt 8192 (length line) ≡ false → surveyed_line least line ≡ surveyed least line
  unfolding surveyed_line
  of_short short = rw short refl

  pub of_found : (user text : List ℕ) (j : Judgement) → nat_lt 8192 (length line) ≡ false
      → surveyed least line ≡ (user, judged least text) → j ≡ judged least text → surveyed_line least line ≡ (user, j)
  of_found user text j short found is = of_short short ∙ (found ∙ ap (λ (x : Judgement). (user, x)) (sym is))

  pub of_long : nat_lt 8192 (length line) ≡ true → surveyed_line least line ≡ ([], TooLong)
  unfolding surveyed_line
  of_long long = rw long refl

  pub row_of : (format : Format) (user : List ℕ) (j : Judgement) → surveyed_line least line ≡ (user, j)
      → line_row format least line ≡ row_text format user j
  unfolding line_row
  row_of format user j is = ap (λ (x : List ℕ × Judgement). row_text format x.0 x.1) is
