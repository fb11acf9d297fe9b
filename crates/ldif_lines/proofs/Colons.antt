-- The first colon of a line.
use Rattle.std.proofs.Common.{◌≡◌, ◌≢◌, ℕ, ◌<◌, ◌+◌, ◌-◌, true, false, List, [], ◌∷◌, inl, inr, length, get_or, take, drop, suc, refl, sym, ap, arith, rules}
use Rattle.std.specs.List.{list_any, before_first, after_first, position_or_len}
use Rattle.std.proofs.lemmas.Bool.{cases_Bool}
use Rattle.std.proofs.lemmas.List.{length-drop, take_all}
use Rattle.std.proofs.lemmas.List.Folds.{list_any_at}
use Rattle.std.proofs.lemmas.List.Sums.{position_or_len_is}
use Rattle.ldif_lines.specs.Attributes.{begins_value}

not_colon : (b : ℕ) → b ≢ 58 → begins_value b ≡ false
not_colon b other = elim (cases_Bool (begins_value b)) [ inl e ↦ absurd (other (search rules)) | inr e ↦ e ]

-- the first colon
pub first_colon : (line : List ℕ) (at : ℕ) → at < length line → ((k : ℕ) → k < at → get_or line k 0 ≢ 58)
    → get_or line at 0 ≡ 58 → (list_any begins_value line ≡ true) × (take at line ≡ before_first begins_value line)
    × (drop (at + 1) line ≡ after_first begins_value line)
first_colon line at within none colon =
    let here : position_or_len begins_value line ≡ at =
    position_or_len_is begins_value line at 0 (omega arith) (λ k below. not_colon (get_or line k 0) (none k below))
    (λ h. rw colon refl) in (
      list_any_at begins_value line at 0 within (search rules),
      ap (λ n. take n line) (sym here),
      ap (λ n. drop (n + 1) line) (sym here),
    )

pub no_colon : (line : List ℕ) → ((k : ℕ) → k < length line → get_or line k 0 ≢ 58) → list_any begins_value line ≡ false
no_colon [] none = refl
no_colon (b ∷ line) none = rw (not_colon b (none 0 (omega arith))) (no_colon line (λ k h. none (suc k) (omega arith)))

-- what comes after a place
pub after_place : (line : List ℕ) (n : ℕ) → take (length line - n) (drop n line) ≡ drop n line
after_place line n =
    let count = length-drop n line in
    take_all (length line - n) (drop n line) (omega (arith, count))
