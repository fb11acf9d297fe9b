-- An exchange that is taken back leaves the rows before it.
use Rattle.std.proofs.Common.{◌≡◌, ℕ, ◌+◌, Bool, true, false, List, [], ◌∷◌, ◌++◌, length, take, cond, refl, sym, ap, ◌∙◌}
use Rattle.std.proofs.Common.{arith, Option, Some, None}
use Rattle.std.specs.Prelude.{◌-◌, String, string_bytes, is_some, if◌then◌else◌}
use Rattle.std.proofs.lemmas.List.{length-append, take-map}
use Rattle.std.proofs.Math.Seq.{take-append_seam}
use Rattle.std.proofs.lemmas.Option.{none-some}
use Rattle.indexmap.specs.IndexMap.{insert_entry}
use Rattle.stored_check.specs.Verdict.{same_text}
use Rattle.pw_file.specs.History.{Rows, text_in}
use Rattle.pw_file.specs.Table.{rows_of}
use Rattle.base64ct.proofs.DecodingLaws.{true_same}
use Rattle.pw_file.proofs.Content.{text_inserted}
use Rattle.pw_file.proofs.Entries.{rows_length}

-- a user has the text that was put last
pub text_put : (rows : Rows) (user new : List ℕ) → text_in (insert_entry same_text rows user new) user ≡ Some new
text_put rows user new = text_inserted rows user new user ∙ rw (true_same user) refl

-- the text before, put again
again_cases : (e : List ℕ × List ℕ) (es : Rows) (user new old : List ℕ) (t : Bool) → same_text user e.0 ≡ t
    → cond t (Some e.1) (text_in es user) ≡ Some old
    → (text_in es user ≡ Some old → insert_entry same_text (insert_entry same_text es user new) user old ≡ es)
    → insert_entry same_text (if t then (e.0, new) ∷ es else e ∷ insert_entry same_text es user new) user old ≡ e ∷ es
again_cases e es user new old true is had rest = let same : e.1 ≡ old = cc in rw (is, ← same) refl
again_cases e es user new old false is had rest = rw is (ap (λ (more : Rows). e ∷ more) (rest had))

pub put_again : (rows : Rows) (user new old : List ℕ) → text_in rows user ≡ Some old
    → insert_entry same_text (insert_entry same_text rows user new) user old ≡ rows
put_again [] user new old had = absurd (none-some old had)
put_again (e ∷ es) user new old had =
    again_cases e es user new old (same_text user e.0) refl had (put_again es user new old)

-- a new user goes last
last_cases : (e : List ℕ × List ℕ) (es : Rows) (user new : List ℕ) (t : Bool)
    → cond t (Some e.1) (text_in es user) ≡ None
    → (text_in es user ≡ None → insert_entry same_text es user new ≡ es ++ (user, new) ∷ [])
    → (if t then (e.0, new) ∷ es else e ∷ insert_entry same_text es user new) ≡ e ∷ (es ++ (user, new) ∷ [])
last_cases e es user new true none rest = absurd (none-some e.1 (sym none))
last_cases e es user new false none rest = ap (λ (more : Rows). e ∷ more) (rest none)

pub put_last : (rows : Rows) (user new : List ℕ) → text_in rows user ≡ None
    → insert_entry same_text rows user new ≡ rows ++ (user, new) ∷ []
put_last [] user new none = refl
put_last (e ∷ es) user new none = last_cases e es user new (same_text user e.0) none (put_last es user new)

-- the rows before the last one
pub before_last : {A : Type 0} (old : List (List ℕ × String A)) (n : ℕ) (rows : Rows) (row : List ℕ × List ℕ)
    → rows_of old ≡ rows ++ row ∷ [] → n ≡ length old - 1 → rows_of (take n old) ≡ rows
before_last {A} old n rows row are is =
    let as_row : List ℕ × String A → List ℕ × List ℕ = λ entry. (entry.0, string_bytes entry.1) in
    let all : length old ≡ length rows + 1 =
    sym (rows_length old) ∙ ap length are ∙ length-append rows (row ∷ []) in
    let count : n ≡ length rows = omega (arith, all, is) in
    sym (take-map as_row n old) ∙ ap (take n) are ∙ ap (λ (k : ℕ). take k (rows ++ row ∷ [])) count
    ∙ take-append_seam rows (row ∷ [])

-- ---- an exchange that is taken back

module _ (now after rows : Rows) (user new : List ℕ) (pair : List ℕ × Option (List ℕ)) where
  same_rows : (before : Option (List ℕ)) → (user, before) ≡ pair → now ≡ insert_entry same_text rows pair.0 new
      → now ≡ insert_entry same_text rows user new
  same_rows before view is =
      is ∙ ap (λ (q : List ℕ × Option (List ℕ)). insert_entry same_text rows q.0 new) (sym view)

  text_before : (before : Option (List ℕ)) → (user, before) ≡ pair → pair.1 ≡ text_in rows pair.0
      → text_in rows user ≡ before
  text_before before view had =
      ap (λ (q : List ℕ × Option (List ℕ)). text_in rows q.0) view ∙ sym had
      ∙ ap (λ (q : List ℕ × Option (List ℕ)). q.1) (sym view)

  pub text_is_back : (old : List ℕ) → (user, Some old) ≡ pair → now ≡ insert_entry same_text rows pair.0 new
      → pair.1 ≡ text_in rows pair.0
      → (is_some (text_in now user) ≡ true → after ≡ insert_entry same_text now user old) → after ≡ rows
  text_is_back old view is had put =
      let same = same_rows (Some old) view is in
      let some : is_some (text_in now user) ≡ true =
      ap (λ (t : Rows). is_some (text_in t user)) same ∙ ap is_some (text_put rows user new) in
      put some ∙ ap (λ (t : Rows). insert_entry same_text t user old) same
      ∙ put_again rows user new old (text_before (Some old) view had)

  pub user_is_gone : (user, None) ≡ pair → now ≡ insert_entry same_text rows pair.0 new
      → pair.1 ≡ text_in rows pair.0
      → ((before : Rows) (row : List ℕ × List ℕ) → now ≡ before ++ row ∷ [] → after ≡ before) → after ≡ rows
  user_is_gone view is had dropped =
      dropped rows (user, new) (same_rows None view is ∙ put_last rows user new (text_before None view had))
