-- A table that takes the lines of a file has the rows of that file.
use Rattle.std.proofs.Common.{length, drop, ◌+◌, ◌≡◌, ℕ, Bool, true, false, cond, List, [], ◌∷◌, refl, sym, ap, ◌∙◌, Option, Some, None}
use Rattle.std.specs.Prelude.{eqb, is_some}
use Rattle.std.specs.List.{starts_with}
use Rattle.std.specs.Option.{option_map}
use Rattle.line_log.specs.Log.{header, joined, open_lines, recovered}
use Rattle.line_log.specs.Taker.{after_all, file_fault, line_fault}
use Rattle.line_log.specs.declared.reopen.OpenError.{OpenError}
use Rattle.line_log.specs.declared.reopen.OpenError.TheVariants.{BadLine, NoHeader}
use Rattle.pw_file.specs.History.{Rows}
use Rattle.pw_file.specs.Policy.{TextPolicy}
use Rattle.pw_store.specs.Store.{is_taken, recovered_rows, rows_after, rows_with, store_fault}
use Rattle.pw_store.specs.declared.loading.Loading.{Loading}

abbrev pub with_rows : {P A B C : Type 0} → Rows → Loading P A B C
with_rows rows = record { table = rows }

abbrev pub takes : {T V P A B C : Type 0} → TextPolicy T V → Loading P A B C → List ℕ → Bool
takes p s line = is_taken p s.table line

abbrev pub after : {T V P A B C : Type 0} → TextPolicy T V → Loading P A B C → List ℕ → Loading P A B C
after p s line = with_rows (rows_with p s.table line)

module _ {T V P A B C : Type 0} (p : TextPolicy T V) where
  pub loaded : (rows : Rows) (lines : List (List ℕ)) → after_all (takes {P = P} {A = A} {B = B} {C = C} p) (after {P = P} {A = A} {B = B} {C = C} p) (with_rows {P = P} {A = A} {B = B} {C = C} rows) lines ≡ option_map (with_rows {P = P} {A = A} {B = B} {C = C}) (rows_after p rows lines)
  loaded rows [] = refl
  loaded rows (line ∷ lines) = by_test (is_taken p rows line) refl (loaded (rows_with p rows line) lines)
    where
      by_test : (t : Bool) → is_taken p rows line ≡ t → after_all (takes {P = P} {A = A} {B = B} {C = C} p) (after {P = P} {A = A} {B = B} {C = C} p) (with_rows {P = P} {A = A} {B = B} {C = C} (rows_with p rows line)) lines ≡ option_map (with_rows {P = P} {A = A} {B = B} {C = C}) (rows_after p (rows_with p rows line) lines)
          → after_all (takes {P = P} {A = A} {B = B} {C = C} p) (after {P = P} {A = A} {B = B} {C = C} p) (with_rows {P = P} {A = A} {B = B} {C = C} rows) (line ∷ lines) ≡ option_map (with_rows {P = P} {A = A} {B = B} {C = C}) (rows_after p rows (line ∷ lines))
      by_test true is more =
          ap (λ b. cond b (after_all (takes {P = P} {A = A} {B = B} {C = C} p) (after {P = P} {A = A} {B = B} {C = C} p) (with_rows {P = P} {A = A} {B = B} {C = C} (rows_with p rows line)) lines) None) is ∙ more
          ∙ ap (option_map (with_rows {P = P} {A = A} {B = B} {C = C})) (sym (ap (λ b. cond b (rows_after p (rows_with p rows line) lines) None) is))
      by_test false is more =
          ap (λ b. cond b (after_all (takes {P = P} {A = A} {B = B} {C = C} p) (after {P = P} {A = A} {B = B} {C = C} p) (with_rows {P = P} {A = A} {B = B} {C = C} (rows_with p rows line)) lines) None) is
          ∙ ap (option_map (with_rows {P = P} {A = A} {B = B} {C = C})) (sym (ap (λ b. cond b (rows_after p (rows_with p rows line) lines) None) is))

  back : (o : Option Rows) (s : Loading P A B C) → option_map (with_rows {P = P} {A = A} {B = B} {C = C}) o ≡ Some s → o ≡ Some s.table
  back None s e = absurd (cc e)
  back (Some rows) s e = some_table (some_same e)
    where
      some_same : Some (with_rows {P = P} {A = A} {B = B} {C = C} rows) ≡ Some s → with_rows {P = P} {A = A} {B = B} {C = C} rows ≡ s
      some_same e = cc e

      some_table : with_rows {P = P} {A = A} {B = B} {C = C} rows ≡ s → Some rows ≡ Some s.table
      some_table same = ap (λ (x : Loading P A B C). Some x.table) same

  pub rows_then : (file : List ℕ) (s : Loading P A B C) → after_all (takes {P = P} {A = A} {B = B} {C = C} p) (after {P = P} {A = A} {B = B} {C = C} p) (with_rows {P = P} {A = A} {B = B} {C = C} []) (recovered file) ≡ Some s → recovered_rows p file ≡ Some s.table
  unfolding recovered_rows
  rows_then file s all = back (rows_after p [] (recovered file)) s (sym (loaded [] (recovered file)) ∙ all)

module _ {T V : Type 0} (P A B C : Type 0) (p : TextPolicy T V) where
  pub some_then : (file : List ℕ) (rows : Rows) → recovered_rows p file ≡ Some rows → is_some (after_all (takes {P = P} {A = A} {B = B} {C = C} p) (after {P = P} {A = A} {B = B} {C = C} p) (with_rows {P = P} {A = A} {B = B} {C = C} []) (recovered file)) ≡ true
  unfolding recovered_rows
  some_then file rows is = ap is_some (loaded {P = P} {A = A} {B = B} {C = C} p [] (recovered file) ∙ ap (option_map (with_rows {P = P} {A = A} {B = B} {C = C})) is)

module _ {T V P A B C : Type 0} (p : TextPolicy T V) where
  pub some_from : (s : Loading P A B C) (file : List ℕ) (rows : Rows) → s.table ≡ [] → recovered_rows p file ≡ Some rows
      → is_some (after_all (takes {P = P} {A = A} {B = B} {C = C} p) (after {P = P} {A = A} {B = B} {C = C} p) s (recovered file)) ≡ true
  some_from s file rows empty is =
      ap (λ (t : Rows). is_some (after_all (takes {P = P} {A = A} {B = B} {C = C} p) (after {P = P} {A = A} {B = B} {C = C} p) (with_rows {P = P} {A = A} {B = B} {C = C} t) (recovered file))) empty
      ∙ some_then P A B C p file rows is

-- ---- the first fault

module _ {T V : Type 0} (P A B C : Type 0) (p : TextPolicy T V) where
  pub fault_loaded : (rows : Rows) (at : ℕ) (lines : List (List ℕ)) (end : List ℕ)
      → line_fault (takes {P = P} {A = A} {B = B} {C = C} p) (after {P = P} {A = A} {B = B} {C = C} p) (with_rows {P = P} {A = A} {B = B} {C = C} rows) at lines end
      ≡ line_fault (is_taken p) (rows_with p) rows at lines end
  fault_loaded rows at [] end = refl
  fault_loaded rows at (line ∷ lines) end =
      ap (λ (o : Option OpenError). cond (is_taken p rows line) o (Some (BadLine at))) (fault_loaded (rows_with p rows line) (at + (length line + 1)) lines end)

module _ {T V P A B C : Type 0} (p : TextPolicy T V) where
  pub fault_from : (s : Loading P A B C) (file : List ℕ) → s.table ≡ []
      → file_fault (takes {P = P} {A = A} {B = B} {C = C} p) (after {P = P} {A = A} {B = B} {C = C} p) s file ≡ store_fault p file
  fault_from s file empty =
      let text : List ℕ = drop 11 file in
      let end : List ℕ = drop (length (joined (open_lines text))) text in
      ap (λ (o : Option OpenError). cond (starts_with eqb file header) o (Some NoHeader))
      (fault_loaded P A B C p s.table 11 (open_lines text) end
      ∙ ap (λ (rows : Rows). line_fault (is_taken p) (rows_with p) rows 11 (open_lines text) end) empty)
