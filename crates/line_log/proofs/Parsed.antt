-- What a file is, of which the header and the lines have been read.
use Rattle.std.proofs.Common.{eqb, ◌≡◌, ℕ, ◌+◌, ◌++◌, Bool, true, false, cond, Option, None, Some, List, [], length, drop, refl, sym, ◌∙◌, ap, subst, arith, length-append, length-drop, ◌≤◌}
use Rattle.line_log.specs.Log.{header, is_end, open_lines, recovered, joined, written, Stands}
use Rattle.std.proofs.lemmas.Bool.Decides.{Decides-eqb}
use Rattle.std.proofs.lemmas.Slice.Eq.{starts_is}
use Rattle.std.specs.List.{starts_with}
use Rattle.std.specs.Prelude.{is_some}
use Rattle.std.proofs.lemmas.List.{append-nil, drop_at}
use Rattle.line_log.specs.Taker.{after_all, file_fault, is_refusal, line_fault, text_fault}
use Rattle.line_log.specs.declared.reopen.OpenError.{OpenError}
use Rattle.line_log.specs.declared.reopen.OpenError.TheVariants.{BadEnd, NoHeader}
use Rattle.line_log.proofs.LogLines.{open_lines_are}
use Rattle.line_log.proofs.Crash.{stands}
use Rattle.line_log.proofs.Taking.{end_is, end_test, fault_behind}

module _ (file text : List ℕ) (front : file ≡ header ++ text) where
  pub lines_are : recovered file ≡ open_lines text
  lines_are = ap recovered front

  pub parsed : (len : ℕ) → text ≡ joined (open_lines text) ++ drop len text → is_end (drop len text) ≡ true → Stands (recovered file) file
  parsed len split is =
      subst (λ (ls : List (List ℕ)). Stands ls file) (sym lines_are)
      (stands (open_lines text) (drop len text) file (open_lines_are text) (front ∙ ap (λ (t : List ℕ). header ++ t) split) (end_is (drop len text) is))

  -- where its lines end
  pub place_is : (len : ℕ) → len ≤ length text → text ≡ joined (open_lines text) ++ drop len text → 11 + len ≡ length (written (recovered file))
  place_is len bound split =
      omega (arith, bound, ap length split, length-append (joined (open_lines text)) (drop len text), length-drop len text, ap (λ (ls : List (List ℕ)). length (written ls)) lines_are)

  -- its first fault is that of the text
  pub fault_of_text : {S : Type 0} (takes : S → List ℕ → Bool) (after : S → List ℕ → S) (s : S) → file_fault takes after s file ≡ text_fault takes after s text
  fault_of_text takes after s =
      ap (λ b. cond b (text_fault takes after s (drop 11 file)) (Some NoHeader)) ((starts_is Decides-eqb file header (starts_with eqb file header) refl).1 text front)
      ∙ ap (λ (t : List ℕ). text_fault takes after s (drop 11 t)) front

-- the fault of a file without the header
pub fault_without_header : {S : Type 0} (takes : S → List ℕ → Bool) (after : S → List ℕ → S) (s : S) (file : List ℕ) → ((text : List ℕ) → file ≡ header ++ text → ⊥)
    → file_fault takes after s file ≡ Some NoHeader
fault_without_header takes after s file none = by_test (starts_with eqb file header) refl
  where
    by_test : (t : Bool) → starts_with eqb file header ≡ t → file_fault takes after s file ≡ Some NoHeader
    by_test true is = absurd (none (drop 11 file) ((starts_is Decides-eqb file header (starts_with eqb file header) refl).0 is))
    by_test false is = ap (λ b. cond b (text_fault takes after s (drop 11 file)) (Some NoHeader)) is

-- what a run can have left has no fault, where its lines are taken
module _ {S : Type 0} (takes : S → List ℕ → Bool) (after : S → List ℕ → S) (s : S) (file : List ℕ) (left : Stands (recovered file) file) where
  abbrev lines : List (List ℕ)
  lines = recovered file

  no_fault : (last : S) → after_all takes after s lines ≡ Some last → file_fault takes after s file ≡ None
  no_fault last all =
      let text = joined lines ++ left.end in
      let same : open_lines text ≡ lines = sym (lines_are file text left.split) in
      let at = length (joined lines) in
      fault_of_text file text left.split takes after s
      ∙ ap (λ (ls : List (List ℕ)). line_fault takes after s 11 ls (drop (length (joined ls)) text)) same
      ∙ ap (λ (t : List ℕ). line_fault takes after s 11 lines t) (drop_at (joined lines) left.end at refl)
      ∙ ap (λ (ls : List (List ℕ)). line_fault takes after s 11 ls left.end) (sym (append-nil lines))
      ∙ fault_behind takes after s last 11 lines [] left.end all
      ∙ ap (λ b. cond b None (Some (BadEnd (11 + at)))) (end_test left.end left.ends)

  by_last : (o : Option S) → after_all takes after s lines ≡ o → is_some o ≡ true → file_fault takes after s file ≡ None
  by_last None all is = absurd (cc is)
  by_last (Some last) all is = no_fault last all

  -- so no refusal comes that is its fault
  pub not_refused : is_some (after_all takes after s lines) ≡ true → (e : OpenError) → (is_refusal e ≡ true → file_fault takes after s file ≡ Some e) → is_refusal e ≡ false
  not_refused is e err = by_test (is_refusal e) refl
    where
      by_test : (t : Bool) → is_refusal e ≡ t → is_refusal e ≡ false
      by_test false is_not = is_not
      by_test true refused = absurd (cc (sym (by_last (after_all takes after s lines) refl is) ∙ err refused))
