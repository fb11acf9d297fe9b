-- What is handed on of a line, by its length and its parts, and what that leaves of a state.
use Rattle.std.proofs.Common.{◌≡◌, ℕ, true, false, List, length, refl, Some, None, Ok, Err}
use Rattle.std.specs.Prelude.{nat_lt}
use Rattle.application_texts.specs.Makers.{read_by}
use Rattle.application_texts.specs.declared.makers.Maker.{Maker}
use Rattle.foreign_lines.specs.Handed.{Handed, by_answer, handed}
use Rattle.foreign_lines.specs.Parts.{Parts, parts_in}
use Rattle.foreign_lines.specs.Rules.{by_after}
use Rattle.foreign_lines.specs.declared.parts.LineForm.{LineForm}

module _ (foreign : Maker) (form : LineForm) (l : List ℕ) where
  pub of_long : nat_lt 8192 (length l) ≡ true → handed foreign form l ≡ Ok l
  unfolding handed
  of_long long = rw long refl

  module _ (short : nat_lt 8192 (length l) ≡ false) where
    pub of_parts : (p : Parts) → parts_in foreign form l ≡ Some p → handed foreign form l ≡ by_answer form p (read_by foreign p.text)
    unfolding handed
    of_parts p is = rw (short, is) refl

    pub of_none : parts_in foreign form l ≡ None → handed foreign form l ≡ Ok l
    unfolding handed
    of_none is = rw (short, is) refl

-- a program whose state stays keeps it behind what it is handed, too
pub stays : {St : Type 0} (s : St) (h : Handed) → by_after (λ line. s) s h ≡ s
stays s (Ok line) = refl
stays s (Err text) = refl
