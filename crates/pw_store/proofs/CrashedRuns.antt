-- What a crash of a run leaves is judged by the lines of the run.
use Rattle.std.proofs.Common.{◌≡◌, inl, inr, ⊎_elim, ℕ, ◌+◌, List, [], ◌∷◌, ◌++◌, take, refl, sym, subst, append_assoc, Some, None}
use Rattle.std.proofs.lemmas.List.{append-nil}
use Rattle.line_program.specs.Rules.{after_lines}
use Rattle.pw_file.specs.History.{History, IsContentOf, Reply, Rows, change}
use Rattle.pw_file.specs.Policy.{TextPolicy}
use Rattle.pw_file.specs.Rules.{changed}
use Rattle.pw_store.specs.Laws.{IsJudgedBy, IsJudgedWith, JudgedAfterCrash, JudgedAfterRun}
use Rattle.pw_store.specs.Run.{Fate, IsLeftWith, State, pairs, state, store_after, store_reply, store_rules}
use Rattle.pw_store.specs.Store.{StandsFor}
use Rattle.pw_store.proofs.Contents.{by_change}
use Rattle.pw_store.proofs.Judged.{alike}

module _ {T V : Type 0} (p : TextPolicy T V) where
  rows_then : (s : State) (line : List ℕ) → (store_after p s line).rows ≡ changed s.rows (change p (line, store_reply p s line))
  unfolding store_after
  rows_then s line = refl

  -- the rows after lines are the content of them with their replies
  pub content_of_lines : (ls : List (List ℕ)) (h : History) (s : State) → IsContentOf p h s.rows
      → IsContentOf p (h ++ pairs p s ls) (after_lines (store_rules p) s ls).rows
  content_of_lines [] h s held = subst (λ (k : History). IsContentOf p k s.rows) (sym (append-nil h)) held
  content_of_lines (l ∷ ls) h s held =
      let pair : List ℕ × Reply = (l, store_reply p s l) in
      let one = subst (λ (r : Rows). IsContentOf p (h ++ pair ∷ []) r) (sym (rows_then s l)) (by_change p h s.rows pair (change p pair) refl held) in
      subst (λ (k : History). IsContentOf p k (after_lines (store_rules p) (store_after p s l) ls).rows) (append_assoc h (pair ∷ []) (pairs p (store_after p s l) ls))
      (content_of_lines ls (h ++ pair ∷ []) (store_after p s l) one)

  judged_by : (h : History) (s : State) (ls : List (List ℕ)) (file : List ℕ) → IsContentOf p h s.rows → StandsFor p (after_lines (store_rules p) s ls).rows file
      → IsJudgedBy p (h ++ pairs p s ls) file
  judged_by h s ls file held stands = alike p (h ++ pairs p s ls) (after_lines (store_rules p) s ls).rows file (content_of_lines ls h s held) stands.rows_are

  pub after_crash : JudgedAfterCrash p
  after_crash h rows size asked file held (k, le, stands) = (k, le, judged_by h (state rows size None) (take k asked) file held stands)

  left_with : (h : History) (rows : Rows) (size : ℕ) (fate : Fate) (asked : List (List ℕ)) (n : ℕ) (file : List ℕ) → IsContentOf p h rows
      → IsLeftWith p rows size fate asked n file → IsJudgedWith p h rows size fate asked n file
  left_with h rows size None asked n file held never = never
  left_with h rows size (Some m) asked n file held stands = judged_by h (state rows size None) (take (m + n) asked) file held stands

  pub after_run : JudgedAfterRun p
  after_run h rows size fate asked k n file held left = ⊎_elim
      (λ stands. inl (judged_by h (state rows size fate) (take k asked) file held stands))
      (λ way. inr (left_with h rows size fate asked n file held way)) left
