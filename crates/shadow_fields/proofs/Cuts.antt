-- Lines cut at their first colon.
use Rattle.std.proofs.Common.{◌≡◌, ◌≢◌, ℕ, ◌<◌, ◌+◌, ◌-◌, true, false, List, [], ◌∷◌, inl, inr, length, get_or}
use Rattle.std.proofs.Common.{take, drop, suc, refl, sym, ap, ◌∙◌, arith, rules, Option}
use Rattle.std.specs.Prelude.{is_some, Some, None}
use Rattle.std.specs.List.{list_any, before_first, after_first, position_or_len}
use Rattle.std.proofs.lemmas.Bool.{cases_Bool}
use Rattle.std.proofs.lemmas.List.{length-drop, take_all}
use Rattle.std.proofs.lemmas.List.Folds.{list_any_at}
use Rattle.std.proofs.lemmas.List.Sums.{position_or_len_is}
use Rattle.pieces.specs.Characters.{is_tab}
use Rattle.pieces.specs.Places.{IsFirstPlace}
use Rattle.line_program.proofs.LastTab.{no_tab}
use Rattle.shadow_fields.specs.Fields.{is_colon}

not_colon : (b : ℕ) → b ≢ 58 → is_colon b ≡ false
not_colon b other = elim (cases_Bool (is_colon b)) [ inl e ↦ absurd (other (search rules)) | inr e ↦ e ]

-- the first colon
pub first_colon : (line : List ℕ) (at : ℕ) → at < length line → ((k : ℕ) → k < at → get_or line k 0 ≢ 58)
    → get_or line at 0 ≡ 58 → (list_any is_colon line ≡ true) × (take at line ≡ before_first is_colon line)
    × (drop (at + 1) line ≡ after_first is_colon line)
first_colon line at within none colon =
    let here : position_or_len is_colon line ≡ at =
    position_or_len_is is_colon line at 0 (omega arith) (λ k below. not_colon (get_or line k 0) (none k below))
    (λ h. rw colon refl) in (
      list_any_at is_colon line at 0 within (search rules),
      ap (λ n. take n line) (sym here),
      ap (λ n. drop (n + 1) line) (sym here),
    )

pub no_colon : (line : List ℕ) → ((k : ℕ) → k < length line → get_or line k 0 ≢ 58) → list_any is_colon line ≡ false
no_colon [] none = refl
no_colon (b ∷ line) none = rw (not_colon b (none 0 (omega arith))) (no_colon line (λ k h. none (suc k) (omega arith)))

-- without a colon all stands before it
pub all_before : (line : List ℕ) → ((k : ℕ) → k < length line → get_or line k 0 ≢ 58) → line ≡ before_first is_colon line
all_before line none =
    let here : position_or_len is_colon line ≡ length line =
    position_or_len_is is_colon line (length line) 0 (omega arith)
    (λ k below. not_colon (get_or line k 0) (none k below)) (λ h. absurd (omega arith)) in
    sym (ap (λ n. take n line) here ∙ take_all (length line) line (omega arith))

-- whether there is a tab
pub found_tab : (bytes : List ℕ) (r : Option ℕ) → IsFirstPlace 9 bytes r → is_some r ≡ list_any is_tab bytes
found_tab bytes None none = sym (no_tab bytes none)
found_tab bytes (Some at) place =
    let tab : get_or bytes at 0 ≡ 9 = place.2 in
    sym (list_any_at is_tab bytes at 0 place.0 (rw tab refl))

-- what stands behind a place
pub behind : (line : List ℕ) (n : ℕ) → take (length line - n) (drop n line) ≡ drop n line
behind line n =
    let count = length-drop n line in
    take_all (length line - n) (drop n line) (omega (arith, count))
