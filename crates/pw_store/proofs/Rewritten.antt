-- The lines of the rows make the same rows again.
use Rattle.std.proofs.Common.{◌≡◌, ◌⊎◌, inl, inr, ⊎_elim, ℕ, ◌+◌, ◌≤◌, suc, Bool, true, false, cond, List, [], ◌∷◌, ◌++◌, length, map, refl, sym, ap, ◌∙◌, subst, arith, append_assoc, Option, Some, None, Result, Ok, Err}
use Rattle.std.specs.Prelude.{nat_le, nat_lt}
use Rattle.std.specs.List.{flat_map, list_any}
use Rattle.std.specs.Map.{keys_of}
use Rattle.std.proofs.lemmas.Bool.Decides.{nat_tests}
use Rattle.std.proofs.lemmas.List.{append-nil, length-append, map-append}
use Rattle.pw_file.specs.Policy.{IsLawful, TextPolicy}
use Rattle.stored_check.specs.Verdict.{same_text}
use Rattle.line_log.specs.Log.{AreWhole, joined, open_lines}
use Rattle.line_log.proofs.LogLines.{AreLines, open_lines-joined}
use Rattle.pw_file.specs.Answers.{check_answer, has_room, set_answer, upgrade_answer}
use Rattle.pw_file.specs.Calls.{with_text, without}
use Rattle.pw_file.specs.Commands.{Command, command, set_line}
use Rattle.pw_file.specs.Commands as of
use Rattle.pw_file.specs.History.{Rows, Says, change_of, is_done, text_in}
use Rattle.pw_file.specs.Replies.{reply_by, row_line, set_word}
use Rattle.pw_file.specs.Rules.{changed, table_after, table_reply}
use Rattle.pw_file.specs.declared.error.FileError.{FileError}
use Rattle.pw_file.specs.declared.reply.Word.TheVariants.{TooLong}
use Rattle.pw_file.proofs.Calls.{no_change}
use Rattle.pw_file.proofs.Distinct.{Distinct, content_distinct, distinct_middle, insert_absent}
use Rattle.pw_file.proofs.Listed.{command_named}
use Rattle.pw_store.specs.Store.{as_command, is_taken, recovered_rows, rows_after, rows_with}
use Rattle.pw_file.proofs.GoodRows.{AreRows, IsRow, rows_inserted, rows_left}
use Rattle.pw_store.proofs.Contents.{of_file}
use Rattle.pw_store.proofs.Grouped.{file_is}
use Rattle.pw_store.proofs.Lines.{good, is_line, line_after, line_taken, no_check, no_upgrade}

module _ {T V : Type 0} (p : TextPolicy T V) (law : IsLawful p) where
  -- a `set` that is done
  pub record IsSet (rows : Rows) (line : List ℕ) : Type 0 where
    pub user : List ℕ
    pub text : List ℕ
    pub is : command p line ≡ Some (of.Set user text)
    pub ok : set_answer p (text_in rows user) (length rows) text ≡ Ok tt
    pub name : p.is_name user ≡ true

  -- the command takes a user away
  abbrev IsRemoval : List ℕ → Type 0
  IsRemoval line = (user : List ℕ) × (command p line ≡ Some (of.Remove user))

  done_ok : (a : Result (Unit {0}) (FileError T V)) → is_done (Says (set_word a)) ≡ true → a ≡ Ok tt
  done_ok (Ok done) h = refl
  done_ok (Err e) h = absurd (cc (sym (no_change e).0 ∙ h))

  named : (line user text : List ℕ) → command p line ≡ Some (of.Set user text) → p.is_name user ≡ true
  named line user text is = rw is at (command_named p law line)

  -- a command that is answered `ok` is one of these
  done_by : (rows : Rows) (line : List ℕ) → is_done (table_reply p rows line) ≡ true → IsSet rows line ⊎ IsRemoval line
  unfolding table_reply
  done_by rows line taken = by_length (nat_lt 8192 (length line)) taken
    where
      by_command : (c : Option Command) → command p line ≡ c → is_done (reply_by p (text_in rows) (length rows) rows c) ≡ true → IsSet rows line ⊎ IsRemoval line
      by_command None is h = absurd (cc h)
      by_command (Some (of.Set user text)) is h =
          inl (record { user = user; text = text; is = is; ok = done_ok (set_answer p (text_in rows user) (length rows) text) h; name = named line user text is })
      by_command (Some (of.Check user password)) is h = absurd (cc (sym (no_check p (check_answer p (text_in rows user) password)) ∙ h))
      by_command (Some (of.Upgrade user salt password)) is h = absurd (cc (sym (no_upgrade p (upgrade_answer p (text_in rows user) password salt)) ∙ h))
      by_command (Some (of.Remove user)) is h = inr (user, is)
      by_command (Some of.Listing) is h = absurd (cc h)

      by_length : (t : Bool) → is_done (cond t (Says TooLong) (reply_by p (text_in rows) (length rows) rows (command p line))) ≡ true → IsSet rows line ⊎ IsRemoval line
      by_length true h = absurd (cc h)
      by_length false h = by_command (command p line) refl h

  set_after : (rows : Rows) (line : List ℕ) (taken : is_done (table_reply p rows line) ≡ true) (s : IsSet rows line) → table_after p rows line ≡ with_text rows s.user s.text
  set_after rows line taken s =
      ap (changed rows) (ap (λ (c : Option Command). change_of p c (table_reply p rows line)) s.is
      ∙ ap (λ b. cond b (Some (s.user, Some s.text)) None) taken)

  removal_after : (rows : Rows) (line : List ℕ) (taken : is_done (table_reply p rows line) ≡ true) (r : IsRemoval line) → table_after p rows line ≡ without rows r.0
  removal_after rows line taken r =
      ap (changed rows) (ap (λ (c : Option Command). change_of p c (table_reply p rows line)) r.1
      ∙ ap (λ (b : Bool). cond b (Some (r.0, None)) None) taken)

  command_good : (rows : Rows) (line : List ℕ) → AreRows p rows → is_done (table_reply p rows line) ≡ true → AreRows p (table_after p rows line)
  command_good rows line are taken = ⊎_elim by_set by_removal (done_by rows line taken)
    where
      by_set : IsSet rows line → AreRows p (table_after p rows line)
      by_set s =
          let g = good p (text_in rows s.user) (length rows) s.text s.ok in
          subst (AreRows p) (sym (set_after rows line taken s))
          (rows_inserted p rows s.user s.text are (record { name = s.name; short = g.short; good = g.good }))

      by_removal : IsRemoval line → AreRows p (table_after p rows line)
      by_removal r = subst (AreRows p) (sym (removal_after rows line taken r)) (rows_left p rows r.0 are)

  rows_good : (rows last : Rows) (ls : List (List ℕ)) → AreRows p rows → rows_after p rows ls ≡ Some last → AreRows p last
  rows_good rows last [] are is = by_same (some_same is)
    where
      some_same : Some rows ≡ Some last → rows ≡ last
      some_same e = cc e

      by_same : rows ≡ last → AreRows p last
      by_same same = subst (AreRows p) same are
  rows_good rows last (l ∷ ls) are is = by_test (is_taken p rows l) refl (λ next. rows_good (rows_with p rows l) last ls next)
    where
      by_test : (t : Bool) → is_taken p rows l ≡ t → (AreRows p (rows_with p rows l) → rows_after p (rows_with p rows l) ls ≡ Some last → AreRows p last) → AreRows p last
      by_test true t more =
          more (command_good rows (as_command l) are t) (sym (ap (λ b. cond b (rows_after p (rows_with p rows l) ls) None) t) ∙ is)
      by_test false t more = absurd (cc (ap (λ b. cond b (rows_after p (rows_with p rows l) ls) None) t, is))

  -- ---- their lines

  abbrev pub line_of : List ℕ × List ℕ → List ℕ
  line_of row = set_line row.0 row.1

  lines_are : (rows : Rows) → AreRows p rows → AreLines (map line_of rows)
  lines_are [] are = tt
  lines_are (row ∷ rows) are = (is_line p law row.0 row.1 are.0.name are.0.good, lines_are rows are.1)

  text_is : (rows : Rows) → flat_map row_line rows ≡ joined (map line_of rows)
  text_is [] = refl
  text_is (row ∷ rows) =
      append_assoc (line_of row) (10 ∷ []) (flat_map row_line rows) ∙ ap (λ (t : List ℕ). line_of row ++ 10 ∷ t) (text_is rows)

  pub text_lines : (rows : Rows) → AreRows p rows → open_lines (flat_map row_line rows) ≡ map line_of rows
  text_lines rows are =
      ap open_lines (text_is rows ∙ sym (append-nil (joined (map line_of rows))))
      ∙ open_lines-joined (map line_of rows) [] (lines_are rows are) ∙ append-nil (map line_of rows)

  pub text_whole : (rows : Rows) → AreRows p rows → AreWhole (flat_map row_line rows)
  text_whole rows are = text_is rows ∙ sym (ap joined (text_lines rows are))

  -- ---- taken again

  relisted : (done rest all : Rows) → done ++ rest ≡ all → AreRows p rest → Distinct (keys_of all) → length all ≤ p.users_max → rows_after p done (map line_of rest) ≡ Some all
  relisted done [] all is are d few = ap (λ (r : Rows). Some r) (sym (append-nil done) ∙ is)
  relisted done (row ∷ rest) all is are d few =
      let keys : keys_of all ≡ keys_of done ++ row.0 ∷ keys_of rest =
      ap keys_of (sym is) ∙ map-append (λ (e : List ℕ × List ℕ). e.0) done (row ∷ rest) in
      let new : list_any (same_text row.0) (keys_of done) ≡ false = distinct_middle (keys_of done) row.0 (keys_of rest) (rw keys at d) in
      let size : length all ≡ length done + suc (length rest) = ap length (sym is) ∙ length-append done (row ∷ rest) in
      let ok = set_ok done row are.0 (omega (arith, size, few)) in
      let taken = line_taken p law done row.0 row.1 are.0.name ok in
      let after = line_after p law done row.0 row.1 are.0.name ok ∙ insert_absent done row.0 row.1 new in
      ap (λ b. cond b (rows_after p (rows_with p done (line_of row)) (map line_of rest)) None) taken
      ∙ ap (λ (r : Rows). rows_after p r (map line_of rest)) after
      ∙ relisted (done ++ row ∷ []) rest all (append_assoc done (row ∷ []) rest ∙ is) are.1 d few
    where
      roomy : (had : Option (List ℕ)) (n : ℕ) → n + 1 ≤ p.users_max → has_room p had n ≡ true
      roomy None n room = grind (arith, nat_tests, room)
      roomy (Some old) n room = refl

      set_ok : (rows : Rows) (row : List ℕ × List ℕ) → IsRow p row → length rows + 1 ≤ p.users_max → set_answer p (text_in rows row.0) (length rows) row.1 ≡ Ok tt
      set_ok rows row is room =
          let short : nat_le (length row.1) 1024 ≡ true = let s = is.short in grind (arith, nat_tests, s) in
          rw (short, is.good, roomy (text_in rows row.0) (length rows) room) refl

  pub record IsRewritten (rows : Rows) : Type 0 where
    pub whole : AreWhole (flat_map row_line rows)
    pub again : rows_after p [] (open_lines (flat_map row_line rows)) ≡ Some rows
    pub lines : open_lines (flat_map row_line rows) ≡ map line_of rows

  pub rewritten : (file : List ℕ) (rows : Rows) → recovered_rows p file ≡ Some rows → length rows ≤ p.users_max → IsRewritten rows
  rewritten file rows is few =
      let are = rows_good [] rows _ tt (file_is p file rows is) in
      let distinct = content_distinct p _ rows (of_file p file rows is) in
      record {
        whole = text_whole rows are;
        lines = text_lines rows are;
        again = ap (λ (ls : List (List ℕ)). rows_after p [] ls) (text_lines rows are) ∙ relisted [] rows rows refl are distinct few;
      }

  -- the same of bytes that are those
  pub record AreAgain (bytes : List ℕ) (rows : Rows) : Type 0 where
    pub whole : AreWhole bytes
    pub again : rows_after p [] (open_lines bytes) ≡ Some rows
    pub lines : open_lines bytes ≡ map line_of rows

  pub rewritten_as : (file : List ℕ) (rows : Rows) (bytes : List ℕ) → recovered_rows p file ≡ Some rows → length rows ≤ p.users_max → bytes ≡ flat_map row_line rows → AreAgain bytes rows
  rewritten_as file rows bytes is few same =
      let w = rewritten file rows is few in
      subst (λ (t : List ℕ). AreAgain t rows) (sym same) (record { whole = w.whole; again = w.again; lines = w.lines })
