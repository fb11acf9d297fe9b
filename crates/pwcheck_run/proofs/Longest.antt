-- Lines that are too long.
use Rattle.std.proofs.Common.{◌≡◌, ℕ, true, false, List, [], ◌∷◌, ◌++◌, length, ap, sym, refl, ◌∙◌}
use Rattle.std.specs.Prelude.{nat_lt, codes}
use Rattle.pwcheck_run.specs.Answer.{answer, answer_text, is_match, line_comparisons, line_looks, line_output}
use Rattle.pwcheck_run.specs.declared.answer.Answer.TheVariants.{TooLong}
use Rattle.pwcheck_run.specs.declared.form.Form.{Form}
use Rattle.pwcheck_run.specs.declared.form.Form.TheVariants.{Plain, Counted}

answer_long : (l : List ℕ) → nat_lt 8192 (length l) ≡ true → answer l ≡ TooLong
unfolding answer
answer_long l long = rw long refl

text_long : (form : Form) (looks sames : ℕ) → answer_text form TooLong looks sames ≡ codes "toolong" ++ 10 ∷ []
text_long Plain looks sames = refl
text_long Counted looks sames = refl

pub long_output : (form : Form) (l : List ℕ) (looks sames : ℕ) → nat_lt 8192 (length l) ≡ true
    → line_output form l ≡ answer_text form TooLong looks sames
long_output form l looks sames long =
    ap (λ a. answer_text form a (line_looks l) (line_comparisons l)) (answer_long l long)
    ∙ text_long form (line_looks l) (line_comparisons l) ∙ sym (text_long form looks sames)

pub long_match : (l : List ℕ) → nat_lt 8192 (length l) ≡ true → is_match (answer l) ≡ false
long_match l long = ap is_match (answer_long l long)
