-- The line of a change that the table takes.
use Rattle.std.proofs.Common.{◌≡◌, ℕ, ◌+◌, ◌<◌, ◌≤◌, suc, Bool, true, false, cond, List, [], ◌∷◌, ◌++◌, length, refl, sym, ap, ◌∙◌, arith, inl, Option, Some, None, Result, Ok, Err}
use Rattle.std.specs.Prelude.{◌&&◌, IfOk, codes, drop, eqb, is_ok, nat_le, nat_lt, not}
use Rattle.std.specs.List.{list_any, starts_with}
use Rattle.std.specs.Option.{option_map_or}
use Rattle.pieces.specs.Characters.{is_tab}
use Rattle.std.proofs.lemmas.Bool.Decides.{Decides-eqb, nat_tests}
use Rattle.std.proofs.lemmas.Slice.Eq.{starts_is}
use Rattle.std.proofs.lemmas.List.{length-append, length-drop}
use Rattle.std.proofs.lemmas.List.Folds.{list_any-append}
use Rattle.pieces.specs.Faults.{unless}
use Rattle.pieces.proofs.FaultLaws.{first_none, unless_none, value_found}
use Rattle.line_io.specs.Lines.{is_feed}
use Rattle.line_log.specs.Log.{IsLine}
use Rattle.pw_file.specs.Answers.{IsAnswer, bad_text, has_room, remove_answer, set_answer, set_fault}
use Rattle.pw_file.specs.Calls.{is_want, rows_after_remove, rows_after_set, with_text, without}
use Rattle.pw_file.specs.Commands.{Command, command, remove_line, set_line}
use Rattle.pw_file.specs.Commands as of
use Rattle.pw_file.specs.History.{Rows, Says, is_done, text_in}
use Rattle.pw_file.specs.Lines.{AnswersLineOver, Asks, line_reply}
use Rattle.pw_file.specs.Replies.{check_word, error_word, reply_by, set_word, upgrade_word}
use Rattle.pw_file.specs.Rules.{table_after, table_reply}
use Rattle.pw_file.specs.declared.error.FileError.{FileError}
use Rattle.pw_file.specs.declared.error.FileError.TheVariants as refused
use Rattle.pw_file.specs.declared.reply.LineReply.TheVariants as replies
use Rattle.pw_file.specs.declared.reply.Word.TheVariants.{Done, TooLong}
use Rattle.pw_file.proofs.Calls.{no_change}
use Rattle.pw_file.proofs.Cuts.{remove_read, set_read, some_tab}
use Rattle.pw_file.proofs.LineAnswers.{long_reply, remove_answered, set_answered}
use Rattle.pw_file.specs.Policy.{IsLawful, TextPolicy}
use Rattle.pw_store.specs.Store.{as_command, is_last_part, is_taken, removal_line, removed_name, rows_after, rows_with}

-- ---- what `set` takes

no_fault : {T V : Type 0} → (e : Option T) → bad_text {T = T} {V = V} e ≡ None → e ≡ None
no_fault None h = refl
no_fault (Some e) h = absurd (cc h)

module _ {T V : Type 0} (p : TextPolicy T V) where
  pub record IsGood (had : Option (List ℕ)) (n : ℕ) (new : List ℕ) : Type 0 where
    pub short : length new ≤ 1024
    pub good : p.text_fault new ≡ None
    pub room : has_room p had n ≡ true

  pub good : (had : Option (List ℕ)) (n : ℕ) (new : List ℕ) → set_answer p had n new ≡ Ok tt → IsGood had n new
  good had n new ok =
      let none : set_fault p had n new ≡ None = (value_found tt tt (set_fault p had n new) ok).0 in
      let a = first_none (unless (nat_le (length new) 1024) refused.TextTooLong) (bad_text (p.text_fault new) ∷ (unless (has_room p had n) refused.Full ∷ [])) none in
      let b = first_none (bad_text (p.text_fault new)) (unless (has_room p had n) refused.Full ∷ []) a.1 in
      let c = first_none (unless (has_room p had n) refused.Full) [] b.1 in
      let test : nat_le (length new) 1024 ≡ true = unless_none {E = FileError T V} (nat_le (length new) 1024) refused.TextTooLong a.0 in
      record {
        short = grind (arith, nat_tests, test);
        good = no_fault {T = T} {V = V} (p.text_fault new) b.0;
        room = unless_none {E = FileError T V} (has_room p had n) refused.Full c.0;
      }

-- ---- its line

-- the line of a `set` is its command
pub as_set : (user text : List ℕ) → as_command (set_line user text) ≡ set_line user text
unfolding as_command
as_set user text = rw (some_tab user text) (by_test (nat_le (length (user ++ 9 ∷ text)) 64))
  where
    by_test : (t : Bool) → option_map_or remove_line (cond (t && false) (Some (user ++ 9 ∷ text)) None) (set_line user text) ≡ set_line user text
    by_test true = refl
    by_test false = refl

-- the command of a line is as long, or short
as_cases : (line : List ℕ) (a b c : Bool) → (P : List ℕ → Type 0) → P line → (b ≡ true → P (remove_line (drop 4 line)))
    → P (option_map_or remove_line (cond (a && (b && not c)) (Some (drop 4 line)) None) line)
as_cases line true true false P same away = away refl
as_cases line true true true P same away = same
as_cases line true false c P same away = same
as_cases line false b c P same away = same

pub still_short : (line : List ℕ) → length line ≤ 8192 → length (as_command line) ≤ 8192
unfolding as_command
still_short line short =
    as_cases line (starts_with eqb line (codes "set" ++ 9 ∷ [])) (nat_le (length (drop 4 line)) 64) (list_any is_tab (drop 4 line))
    (λ (l : List ℕ). length l ≤ 8192) short
    (λ test. let most : length (drop 4 line) ≤ 64 = grind (arith, nat_tests, test) in omega (arith, most))

pub still_long : (line : List ℕ) → 8192 < length line → 8192 < length (as_command line)
unfolding as_command
still_long line long =
    as_cases line (starts_with eqb line (codes "set" ++ 9 ∷ [])) (nat_le (length (drop 4 line)) 64) (list_any is_tab (drop 4 line))
    (λ (l : List ℕ). 8192 < length l) long
    (λ test. let most : length (drop 4 line) ≤ 64 = grind (arith, nat_tests, test) in
    absurd (omega (arith, most, long, length-drop 4 line)))

-- what is behind `set` and a tab
pub removed_is : (line name : List ℕ) → line ≡ removal_line name
    → removed_name line ≡ cond (is_last_part name) (Some name) None
removed_is line name is = ap removed_name is

pub removed_none : (line : List ℕ) → ((name : List ℕ) → line ≡ removal_line name → ⊥) → removed_name line ≡ None
removed_none line none = by_test (starts_with eqb line (codes "set" ++ 9 ∷ [])) refl
  where
    by_test : (t : Bool) → starts_with eqb line (codes "set" ++ 9 ∷ []) ≡ t → removed_name line ≡ None
    by_test true is =
        absurd (none (drop 4 line) ((starts_is Decides-eqb line (codes "set" ++ 9 ∷ []) (starts_with eqb line (codes "set" ++ 9 ∷ [])) refl).0 is))
    by_test false is = ap (λ (b : Bool). cond (b && is_last_part (drop 4 line)) (Some (drop 4 line)) None) is

-- the command of a line, by the name
pub as_same : (line : List ℕ) → removed_name line ≡ None → as_command line ≡ line
unfolding as_command
as_same line is = ap (λ (o : Option (List ℕ)). option_map_or remove_line o line) is

pub as_named : (line name : List ℕ) → removed_name line ≡ Some name → as_command line ≡ remove_line name
unfolding as_command
as_named line name is = ap (λ (o : Option (List ℕ)). option_map_or remove_line o line) is

-- the line of a removal is `remove` of the user
pub as_removal : (user : List ℕ) → length user ≤ 64 → list_any is_tab user ≡ false → as_command (removal_line user) ≡ remove_line user
unfolding as_command
as_removal user short tabless =
    let test : nat_le (length user) 64 ≡ true = grind (arith, nat_tests, short) in
    rw (test, tabless) refl

module _ {T V : Type 0} (p : TextPolicy T V) (law : IsLawful p) where
  pub is_line : (user text : List ℕ) → p.is_name user ≡ true → p.text_fault text ≡ None → IsLine (set_line user text)
  is_line user text name is =
      (refl, list_any-append is_feed user (9 ∷ text) ∙ rw (law.name_feedless user name) (law.text_feedless text is))

  module _ (rows : Rows) (user text : List ℕ) (name : p.is_name user ≡ true) (ok : set_answer p (text_in rows user) (length rows) text ≡ Ok tt) where
    pub line_is : IsLine (set_line user text)
    line_is = is_line user text name (good p (text_in rows user) (length rows) text ok).good

    line_short : length (set_line user text) ≤ 8192
    line_short =
        let most : length user ≤ 64 = law.name_short user name in
        let is = good p (text_in rows user) (length rows) text ok in
        let short = is.short in
        let size : length (user ++ 9 ∷ text) ≡ length user + suc (length text) = length-append user (9 ∷ text) in
        omega (arith, most, size, short)

    over : AnswersLineOver p rows (set_line user text) (with_text rows user text) (Some (replies.Word Done))
    over =
        let is = good p (text_in rows user) (length rows) text ok in
        set_answered p rows (set_line user text) user text (with_text rows user text) (Ok tt)
        (line_short, set_read p law user name text (law.text_utf8 text is.good)) (inl (sym ok)) refl

    pub line_taken : is_taken p rows (set_line user text) ≡ true
    line_taken = ap (λ (l : List ℕ). is_done (table_reply p rows l)) (as_set user text) ∙ ap is_done (sym over.0)

    pub line_after : rows_with p rows (set_line user text) ≡ with_text rows user text
    line_after = ap (table_after p rows) (as_set user text) ∙ sym over.1

    pub line_rows : rows_after p rows (set_line user text ∷ []) ≡ Some (with_text rows user text)
    line_rows =
        ap (λ b. cond b (Some (rows_with p rows (set_line user text))) None) line_taken ∙ ap (λ (r : Rows). Some r) line_after

  -- ---- the line of a removal

  module _ (rows : Rows) (user : List ℕ) (name : p.is_name user ≡ true) (takes : p.takes_remove ≡ true)
      (ok : remove_answer p (text_in rows user) ≡ Ok tt) where
    pub removal_is : IsLine (removal_line user)
    removal_is = (refl, law.name_feedless user name)

    remove_short : length (remove_line user) ≤ 8192
    remove_short =
        let most : length user ≤ 64 = law.name_short user name in
        omega (arith, most)

    away : AnswersLineOver p rows (remove_line user) (without rows user) (Some (replies.Word Done))
    away = remove_answered p rows (remove_line user) user (without rows user) (Ok tt) (remove_short, remove_read p law user name takes) (sym ok) refl

    same : as_command (removal_line user) ≡ remove_line user
    same = as_removal user (law.name_short user name) (law.name_tabless user name)

    pub removal_taken : is_taken p rows (removal_line user) ≡ true
    removal_taken = ap (λ (l : List ℕ). is_done (table_reply p rows l)) same ∙ ap is_done (sym away.0)

    pub removal_after : rows_with p rows (removal_line user) ≡ without rows user
    removal_after = ap (table_after p rows) same ∙ sym away.1

    pub removal_rows : rows_after p rows (removal_line user ∷ []) ≡ Some (without rows user)
    removal_rows =
        ap (λ b. cond b (Some (rows_with p rows (removal_line user))) None) removal_taken ∙ ap (λ (r : Rows). Some r) removal_after

same_want : {T V : Type 0} → (e : FileError T V) → is_want {A = Unit {0}} (Err e) ≡ is_want {A = Bool} (Err e)
same_want refused.NoUser = refl
same_want refused.Locked = refl
same_want refused.TextTooLong = refl
same_want (refused.BadText fault) = refl
same_want refused.Full = refl
same_want (refused.BadSalt fault) = refl
same_want (refused.Check fault) = refl
same_want refused.TooCostly = refl
same_want refused.Unmatched = refl
same_want refused.Kept = refl
same_want refused.OutOfMemory = refl

-- ---- lines that are no `set`

module _ {T V : Type 0} (p : TextPolicy T V) where
  pub not_taken : (rows : Rows) (line : List ℕ) (c : Option Command) → command p line ≡ c → is_done (reply_by p (text_in rows) (length rows) rows c) ≡ false
      → is_done (table_reply p rows line) ≡ false
  unfolding table_reply
  not_taken rows line c is other = by_length (nat_lt 8192 (length line))
    where
      by_length : (t : Bool) → is_done (cond t (Says TooLong) (reply_by p (text_in rows) (length rows) rows (command p line))) ≡ false
      by_length true = refl
      by_length false = ap (λ (o : Option Command). is_done (reply_by p (text_in rows) (length rows) rows o)) is ∙ other

  pub no_check : (a : Result Bool (FileError T V)) → is_done (Says (check_word a)) ≡ false
  no_check (Ok true) = refl
  no_check (Ok false) = refl
  no_check (Err e) = (no_change e).0

  pub no_upgrade : (a : Result Bool (FileError T V)) → is_done (Says (upgrade_word a)) ≡ false
  no_upgrade (Ok true) = refl
  no_upgrade (Ok false) = refl
  no_upgrade (Err e) = (no_change e).0

  pub long_not_taken : (rows : Rows) (line : List ℕ) → 8192 < length line → is_done (table_reply p rows line) ≡ false
  long_not_taken rows line long = ap is_done (long_reply p rows line long)

  -- a line is taken where `set` is done
  pub taken_done : (rows after : Rows) (line user text : List ℕ) → Asks p line (of.Set user text)
      → IsAnswer (set_answer p (text_in rows user) (length rows) text) (is_ok (set_answer p (text_in rows user) (length rows) text)) (Ok tt)
      → after ≡ rows_after_set {T = T} {V = V} rows user text (Ok tt)
      → (is_done (table_reply p rows line) ≡ true) × (after ≡ table_after p rows line)
  taken_done rows after line user text asks is next =
      let over = set_answered p rows line user text after (Ok tt) asks is next in
      (ap is_done (sym over.0), over.1)

  -- and not where it is refused
  pub taken_refused : (rows : Rows) (line user text : List ℕ) (e : FileError T V) → Asks p line (of.Set user text)
      → IsAnswer (set_answer p (text_in rows user) (length rows) text) (is_ok (set_answer p (text_in rows user) (length rows) text)) (Err e)
      → is_want {A = Bool} {T = T} {V = V} (Err e) ≡ false → is_done (table_reply p rows line) ≡ false
  taken_refused rows line user text e asks is known = ap is_done (sym (word known over)) ∙ (no_change e).0
    where
      over : AnswersLineOver p rows line rows (line_reply {A = Unit {0}} {T = T} {V = V} (Err e) (error_word e))
      over = set_answered p rows line user text rows (Err e) asks is refl

      known_too : is_want {A = Bool} {T = T} {V = V} (Err e) ≡ false → is_want {A = Unit {0}} {T = T} {V = V} (Err e) ≡ false
      known_too k = same_want e ∙ k

      word : is_want {A = Bool} {T = T} {V = V} (Err e) ≡ false → AnswersLineOver p rows line rows (line_reply {A = Unit {0}} {T = T} {V = V} (Err e) (error_word e)) → Says (error_word e) ≡ table_reply p rows line
      word k o = (rw (known_too k) at o).0

  pub refused_taken : {E : Type 0} (rows : Rows) (line user text : List ℕ) (e : FileError T V) (r : Result Bool E) → Asks p line (of.Set user text)
      → IsAnswer (set_answer p (text_in rows user) (length rows) text) (is_ok (set_answer p (text_in rows user) (length rows) text)) (Err e)
      → IfOk r (λ t. t ≡ false) → IfOk r (λ t. is_want {A = Bool} {T = T} {V = V} (Err e) ≡ false) → IfOk r (λ t. t ≡ is_done (table_reply p rows line))
  refused_taken rows line user text e (Ok t) asks is no_one known = no_one ∙ sym (taken_refused rows line user text e asks is known)
  refused_taken rows line user text e (Err f) asks is no_one known = tt

  -- a removal is taken where the user is there
  pub removal_done : (rows after : Rows) (line user : List ℕ) → Asks p line (of.Remove user) → Ok tt ≡ remove_answer p (text_in rows user)
      → after ≡ rows_after_remove {T = T} {V = V} rows user (Ok tt)
      → (is_done (table_reply p rows line) ≡ true) × (after ≡ table_after p rows line)
  removal_done rows after line user asks is next =
      let over = remove_answered p rows line user after (Ok tt) asks is next in
      (ap is_done (sym over.0), over.1)

  -- and not where it isn't
  pub removal_refused : (rows : Rows) (line user : List ℕ) (e : FileError T V) → Asks p line (of.Remove user) → Err e ≡ remove_answer p (text_in rows user)
      → is_done (table_reply p rows line) ≡ false
  removal_refused rows line user e asks is =
      not_taken rows line (Some (of.Remove user)) asks.1 (ap (λ (a : Result (Unit {0}) (FileError T V)). is_done (Says (set_word a))) (sym is) ∙ (no_change e).0)

  pub refused_away : {E : Type 0} (rows : Rows) (line user : List ℕ) (e : FileError T V) (r : Result Bool E) → Asks p line (of.Remove user)
      → Err e ≡ remove_answer p (text_in rows user) → IfOk r (λ t. t ≡ false) → IfOk r (λ t. t ≡ is_done (table_reply p rows line))
  refused_away rows line user e (Ok t) asks is no_one = no_one ∙ sym (removal_refused rows line user e asks is)
  refused_away rows line user e (Err f) asks is no_one = tt
