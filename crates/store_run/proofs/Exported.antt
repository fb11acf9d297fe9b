-- How the lines of a table go on.
use Rattle.std.proofs.Common.{◌≡◌, ℕ, ◌+◌, ◌<◌, zero, suc, List, [], ◌∷◌, ◌++◌, length, take, slice_get, sym, ap, ◌∙◌, add-one, append_assoc, arith}
use Rattle.std.proofs.Common.{Some, None}
use Rattle.std.proofs.lemmas.List.{append-nil}
use Rattle.std.proofs.lemmas.Option.{none-some}
use Rattle.pw_file.specs.History.{Rows}
use Rattle.store_run.specs.Export.{export_line, export_text}

next_line : (rows : Rows) (i : ℕ) (row : List ℕ × List ℕ) → slice_get rows i ≡ Some row
    → export_text (take (suc i) rows) ≡ export_text (take i rows) ++ export_line row
next_line [] i row at = absurd (none-some row at)
next_line (x ∷ rows) zero row at = let same : x ≡ row = cc in rw same (append-nil (export_line row))
next_line (x ∷ rows) (suc i) row at =
    ap (λ (t : List ℕ). export_line x ++ t) (next_line rows i row at)
    ∙ sym (append_assoc (export_line x) (export_text (take i rows)) (export_line row))

-- one line more
pub exported_more : (rows : Rows) (i : ℕ) (row : List ℕ × List ℕ) → slice_get rows i ≡ Some row
    → export_text (take (i + 1) rows) ≡ export_text (take i rows) ++ export_line row
exported_more rows i row at = ap (λ (n : ℕ). export_text (take n rows)) (add-one i) ∙ next_line rows i row at

-- there is a user at each place below the length
pub user_there : (rows : Rows) (i : ℕ) → i < length rows → slice_get rows i ≡ None → ⊥
user_there [] i within none = omega arith
user_there (x ∷ rows) zero within none = cc
user_there (x ∷ rows) (suc i) within none = user_there rows i (omega arith) none
