-- Lines that are added to others, the rows after them, and how changes are taken back.
use Rattle.std.proofs.Common.{◌≡◌, ◌⊎◌, inl, inr, ⊎_elim, ℕ, ◌+◌, ◌≤◌, Ok, length, length-append, drop, arith, Bool, true, false, cond, List, [], ◌∷◌, ◌++◌, refl, sym, ap, ◌∙◌, subst, Option, Some, None}
use Rattle.line_log.specs.Log.{AreWhole, IsBeforeOrAfter, IsLine, IsSettled, Stands, file_max, group_max, header, joined, open_lines, recovered, written}
use Rattle.line_log.specs.declared.log.LineLog.{LineLog}
use Rattle.line_log.proofs.Crash.{only_stands}
use Rattle.pw_file.specs.Policy.{IsLawful, TextPolicy}
use Rattle.pw_file.specs.Answers.{remove_answer, set_answer}
use Rattle.pw_file.specs.Commands.{set_line}
use Rattle.pw_file.specs.Replies.{row_line}
use Rattle.pw_store.proofs.Lines.{line_is, line_rows, removal_is, removal_rows}
use Rattle.line_log.proofs.LogLines.{joined-append, open_lines-joined, open_lines-line, open_lines_are}
use Rattle.pw_file.specs.Calls.{with_text, without}
use Rattle.pw_file.specs.History.{Rows, text_in}
use Rattle.pw_store.specs.Staged.{IsStaged, Undoes, rows_in}
use Rattle.pw_store.specs.Store.{StandsFor, is_taken, recovered_rows, removal_line, rows_after, rows_with}
use Rattle.pw_store.specs.Stored.{removal_text}

-- ---- lines

pub lines_more : (lines line : List ℕ) → AreWhole lines → IsLine line → open_lines (lines ++ (line ++ 10 ∷ [])) ≡ open_lines lines ++ line ∷ []
lines_more lines line whole is =
    ap (λ (t : List ℕ). open_lines (t ++ (line ++ 10 ∷ []))) whole
    ∙ open_lines-joined (open_lines lines) (line ++ 10 ∷ []) (open_lines_are lines)
    ∙ ap (λ (m : List (List ℕ)). open_lines lines ++ m) (open_lines-line line [] is)

pub whole_more : (lines line : List ℕ) → AreWhole lines → IsLine line → AreWhole (lines ++ (line ++ 10 ∷ []))
whole_more lines line whole is =
    ap (λ (t : List ℕ). t ++ (line ++ 10 ∷ [])) whole
    ∙ sym (joined-append (open_lines lines) (line ∷ []))
    ∙ sym (ap joined (lines_more lines line whole is))

module _ {T V : Type 0} (p : TextPolicy T V) where
  -- ---- rows

  pub rows_after-append : (rows : Rows) (ls more : List (List ℕ)) (mid : Rows) → rows_after p rows ls ≡ Some mid → rows_after p rows (ls ++ more) ≡ rows_after p mid more
  rows_after-append rows [] more mid is = by_same (some_same is)
    where
      some_same : Some rows ≡ Some mid → rows ≡ mid
      some_same e = cc e

      by_same : rows ≡ mid → rows_after p rows more ≡ rows_after p mid more
      by_same same = ap (λ (r : Rows). rows_after p r more) same
  rows_after-append rows (l ∷ ls) more mid is =
      by_test (is_taken p rows l) refl (λ next. rows_after-append (rows_with p rows l) ls more mid next)
    where
      by_test : (t : Bool) → is_taken p rows l ≡ t
          → (rows_after p (rows_with p rows l) ls ≡ Some mid → rows_after p (rows_with p rows l) (ls ++ more) ≡ rows_after p mid more)
          → rows_after p rows (l ∷ ls ++ more) ≡ rows_after p mid more
      by_test true t next =
          ap (λ b. cond b (rows_after p (rows_with p rows l) (ls ++ more)) None) t
          ∙ next (sym (ap (λ b. cond b (rows_after p (rows_with p rows l) ls) None) t) ∙ is)
      by_test false t next = absurd (cc (ap (λ b. cond b (rows_after p (rows_with p rows l) ls) None) t, is))

  pub file_is : (file : List ℕ) (rows : Rows) → recovered_rows p file ≡ Some rows → rows_after p [] (recovered file) ≡ Some rows
  unfolding recovered_rows
  file_is file rows is = is

  pub rows_of_lines : (file : List ℕ) (lines : List (List ℕ)) (rows : Rows) → recovered file ≡ lines → rows_after p [] lines ≡ Some rows → recovered_rows p file ≡ Some rows
  unfolding recovered_rows
  rows_of_lines file lines rows are is = ap (λ (ls : List (List ℕ)). rows_after p [] ls) are ∙ is

  pub stands_as : (lines : List (List ℕ)) (rows : Rows) (c : List ℕ) → Stands lines c → rows_after p [] lines ≡ Some rows → StandsFor p rows c
  stands_as lines rows c s is = record {
    form = subst (λ (ls : List (List ℕ)). Stands ls c) (sym s.counts) s;
    rows_are = rows_of_lines c lines rows s.counts is;
  }

-- ---- taking back

pub undo_push : (rows : Rows) (us : List (List ℕ × Option (List ℕ))) (table : Rows) (user new : List ℕ) → Undoes rows us table
    → Undoes rows (us ++ (user, text_in table user) ∷ []) (with_text table user new)
undo_push rows [] table user new same = (ap (λ (r : Rows). text_in r user) same, (new, ap (λ (r : Rows). with_text r user new) same))
undo_push rows (u ∷ us) table user new (was, (n, more)) = (was, (n, undo_push (with_text rows u.0 n) us table user new more))

-- the table before the last change
pub record Before (rows : Rows) (us : List (List ℕ × Option (List ℕ))) (u : List ℕ × Option (List ℕ)) (table : Rows) : Type 0 where
  pub mid : Rows
  pub undoes : Undoes rows us mid
  pub new : List ℕ
  pub is : table ≡ with_text mid u.0 new
  pub was : u.1 ≡ text_in mid u.0

pub undo_last : (rows : Rows) (us : List (List ℕ × Option (List ℕ))) (u : List ℕ × Option (List ℕ)) (table : Rows) → Undoes rows (us ++ u ∷ []) table
    → Before rows us u table
undo_last rows [] u table (was, (new, is)) = record { mid = rows; undoes = refl; new = new; is = is; was = was }
undo_last rows (v ∷ us) u table (was, (n, more)) =
    let r = undo_last (with_text rows v.0 n) us u table more in
    record { mid = r.mid; undoes = (was, (n, r.undoes)); new = r.new; is = r.is; was = r.was }

-- ---- a group

module _ {T V : Type 0} (p : TextPolicy T V) (law : IsLawful p) where
  pub staged_more : {D : Type 0} (seen : D → List ℕ) (may_leave : D → List ℕ → Type 0) (log : LineLog D) (lines : List ℕ) (undo : List (List ℕ × Option (List ℕ))) (rows : Rows)
      (user text : List ℕ) → p.is_name user ≡ true → set_answer p (text_in rows user) (length rows) text ≡ Ok tt
      → IsStaged p seen may_leave log lines undo rows
      → length (lines ++ row_line (user, text)) ≤ group_max → log.end + length (lines ++ row_line (user, text)) ≤ file_max
      → IsStaged p seen may_leave log (lines ++ row_line (user, text)) (undo ++ (user, text_in rows user) ∷ []) (with_text rows user text)
  staged_more seen may_leave log lines undo rows user text name ok s short room =
      let base : Rows = rows_in p (seen log.device) in
      let line = set_line user text in
      let is = line_is p law rows user text name ok in
      record {
        settled = s.settled;
        file = s.file;
        whole = whole_more lines line s.whole is;
        short = short;
        room = λ some. room;
        table = ap (λ (ls : List (List ℕ)). rows_after p base ls) (lines_more lines line s.whole is)
            ∙ rows_after-append p base (open_lines lines) (line ∷ []) rows s.table ∙ line_rows p law rows user text name ok;
        undoes = undo_push base undo rows user text s.undoes;
      }

module _ {T V : Type 0} (p : TextPolicy T V) (law : IsLawful p) (rows : Rows) (user : List ℕ) (name : p.is_name user ≡ true)
    (takes : p.takes_remove ≡ true) (ok : remove_answer p (text_in rows user) ≡ Ok tt) where
  -- the line of a removal as a group
  pub removal_whole : AreWhole (removal_text user)
  removal_whole = whole_more [] (removal_line user) refl (removal_is p law rows user name takes ok)

  pub removal_opens : rows_after p rows (open_lines (removal_text user)) ≡ Some (without rows user)
  removal_opens =
      ap (λ (ls : List (List ℕ)). rows_after p rows ls) (open_lines-line (removal_line user) [] (removal_is p law rows user name takes ok))
      ∙ removal_rows p law rows user name takes ok

module _ {T V : Type 0} (p : TextPolicy T V) where
  pub with_group : (file lines : List ℕ) (base rows : Rows) → recovered_rows p file ≡ Some base → rows_after p base (open_lines lines) ≡ Some rows
      → rows_after p [] (recovered file ++ open_lines lines) ≡ Some rows
  with_group file lines base rows is after = rows_after-append p [] (recovered file) (open_lines lines) base (file_is p file base is) ∙ after

  -- the rows before or after a group
  pub either : (file lines : List ℕ) (base rows : Rows) → recovered_rows p file ≡ Some base → rows_after p base (open_lines lines) ≡ Some rows
      → (c : List ℕ) → IsBeforeOrAfter (recovered file) (open_lines lines) c → StandsFor p base c ⊎ StandsFor p rows c
  either file lines base rows is after c has = ⊎_elim
      (λ before. inl (stands_as p (recovered file) base c before (file_is p file base is)))
      (λ behind. inr (stands_as p (recovered file ++ open_lines lines) rows c behind (with_group file lines base rows is after))) has

  -- an empty group has the rows of the file
  pub none_staged : (file lines : List ℕ) (base rows : Rows) → recovered_rows p file ≡ Some base → lines ≡ [] → rows_after p base (open_lines lines) ≡ Some rows
      → recovered_rows p file ≡ Some rows
  none_staged file lines base rows is none after = is ∙ sym (ap (λ (t : List ℕ). rows_after p base (open_lines t)) none) ∙ after

  -- what a crash leaves of a file at rest
  pub rest_left : {D : Type 0} (seen : D → List ℕ) (may_leave : D → List ℕ → Type 0) (log : LineLog D) (rows : Rows) → IsSettled seen may_leave log
      → recovered_rows p (seen log.device) ≡ Some rows → (c : List ℕ) → may_leave log.device c → StandsFor p rows c
  rest_left seen may_leave log rows s is c left =
      let lines = recovered (seen log.device) in
      stands_as p lines rows c (only_stands lines log.end (open_lines_are (drop 11 (seen log.device))) s.place _ s.file c (s.durable c left))
      (file_is p (seen log.device) rows is)

-- how much the file has grown
pub grown : (file now lines : List ℕ) (end end_now : ℕ) → end ≡ length (written (recovered file)) → end_now ≡ length (written (recovered now))
    → recovered now ≡ recovered file ++ open_lines lines → AreWhole lines → end_now ≡ end + length lines
grown file now lines end end_now place place_now more whole =
    let all : length (written (recovered now)) ≡ length header + length (joined (recovered now)) = length-append header (joined (recovered now)) in
    let before : length (written (recovered file)) ≡ length header + length (joined (recovered file)) = length-append header (joined (recovered file)) in
    let parts : length (joined (recovered now)) ≡ length (joined (recovered file)) + length (joined (open_lines lines)) =
    ap length (ap joined more ∙ joined-append (recovered file) (open_lines lines)) ∙ length-append (joined (recovered file)) (joined (open_lines lines)) in
    let size : length lines ≡ length (joined (open_lines lines)) = ap length whole in
    omega (arith, place, place_now, all, before, parts, size)
