-- What the answer to a line makes of a run.
use Rattle.std.proofs.Common.{◌≡◌, ◌⊎◌, inl, inr, ⊎_elim, ℕ, zero, suc, ◌<◌, ◌≤◌, ◌+◌, Bool, true, false, cond, List, [], ◌∷◌, ◌++◌, length, Option, Some, None, Result, Ok, Err, refl, sym, ap, ◌∙◌, subst, arith}
use Rattle.std.specs.Prelude.{◌&&◌, is_err, is_ok, nat_lt, not, unwrap_or}
use Rattle.std.proofs.lemmas.Bool.Decides.{nat_tests}
use Rattle.std.proofs.lemmas.List.{nil_from_length}
use Rattle.pieces.specs.FaultCounts.{HasRisen}
use Rattle.line_io.specs.Limits.{line_max}
use Rattle.line_io.specs.Output.{Puts}
use Rattle.line_io.specs.declared.output.OutputBuffer.{OutputBuffer}
use Rattle.line_log.specs.Device.{LeavesOnly}
use Rattle.line_log.specs.Log.{IsSettled}
use Rattle.line_log.specs.declared.log.LineLog.{LineLog}
use Rattle.pw_file.specs.Answers.{set_answer, upgrade_may_lack}
use Rattle.pw_file.specs.Calls.{with_change, with_text, without}
use Rattle.pw_file.specs.Commands as of
use Rattle.pw_file.specs.History.{Reply, Rows, Says, change, change_of, text_in}
use Rattle.pw_file.specs.Lines.{Asks}
use Rattle.pw_file.specs.Policy.{TextPolicy}
use Rattle.pw_file.specs.Replies.{is_good, is_good_word, reply_text}
use Rattle.pw_file.specs.Rules.{table_is_costly, table_reply}
use Rattle.pw_file.specs.declared.error.FileError.TheVariants as refused
use Rattle.pw_file.specs.declared.reply.Word.{Word}
use Rattle.pw_file.specs.declared.reply.Word.TheVariants as w
use Rattle.pw_file.proofs.Calls.{unchanged}
use Rattle.pw_file.proofs.LineAnswers.{long_is, long_reply}
use Rattle.pw_store.specs.Progress.{Begun, Held, IsReady, IsRefusal, Lacks, Progress, Served, count_of, fate_now, oks, refusal_of, refusal_text, verdict_word, words}
use Rattle.pw_store.specs.Run.{asks_change, is_change, sets_refused, state, store_lacks, store_reply}
use Rattle.pw_store.specs.Staged.{IsStaged, lines_of, rows_in, undo_of}
use Rattle.pw_store.specs.Store.{StandsFor, recovered_rows}
use Rattle.pw_store.specs.Stored.{IsSound, IsStored, is_disk_fault, is_unwritten_set, is_unwritten_upgrade, rows_after_store_upgrade, rows_of, size_after, size_after_store_remove, size_after_store_upgrade, size_changed, stored_remove, stored_set, stored_upgrade}
use Rattle.pw_store.specs.declared.error.StoreError.{StoreError}
use Rattle.pw_store.specs.declared.error.StoreError.TheVariants.{Table, DiskFault, FileFull}
use Rattle.pw_store.specs.declared.group.Group.{Group}
use Rattle.pw_store.specs.declared.store.Store.{Store}
use Rattle.pw_store.proofs.Answering.{Changes, Refuses, removed_says, set_refuses, told_err, told_false, told_true, unremoved_says}
use Rattle.pw_store.proofs.Fates.{broken_reply, not_both, open_lacks, other_lacks, other_reply}
use Rattle.pw_store.proofs.Progressing.{answered, failed, held_as, put_nothing, settled, waits}

-- ---- small facts

pub positive : (n : ℕ) → (n ≡ 0 → ⊥) → 0 < n
positive zero never = absurd (never refl)
positive (suc n) never = omega arith

-- a crash now is one since an earlier moment
pub left_now : {D : Type 0} (moment : D → ℕ) (may_leave : D → List ℕ → Type 0) (left_since : D → ℕ → List ℕ → Type 0)
    → ((file : D) (t : ℕ) (c : List ℕ) → t ≤ moment file → may_leave file c → left_since file t c)
    → (old new : D) (P : List ℕ → Type 0) → LeavesOnly moment left_since old new P → (c : List ℕ) → may_leave new c → P c
left_now moment may_leave left_since counts_now old new P run c left = run.each c (counts_now new (moment old) c run.later left)

-- what a line asks for
pub asks_is : {T V : Type 0} (p : TextPolicy T V) (line : List ℕ) (c : Option of.Command) → length line ≤ line_max → of.command p line ≡ c → asks_change p line ≡ is_change c
unfolding asks_change
asks_is p line c short is =
    let test : nat_lt line_max (length line) ≡ false = grind (arith, nat_tests, short) in
    ap (λ (b : Bool). cond b false (is_change (of.command p line))) test ∙ ap is_change is

-- a line that asks for no change makes none
kept_change : {T V : Type 0} → (p : TextPolicy T V) (c : Option of.Command) (reply : Reply) → is_change c ≡ false → change_of p c reply ≡ None
kept_change p None reply is = refl
kept_change p (Some (of.Set user text)) reply is = absurd (cc is)
kept_change p (Some (of.Check user password)) reply is = refl
kept_change p (Some (of.Upgrade user salt password)) reply is = absurd (cc is)
kept_change p (Some (of.Remove user)) reply is = absurd (cc is)
kept_change p (Some of.Listing) reply is = refl

pub no_change_asked : {T V : Type 0} (p : TextPolicy T V) (line : List ℕ) (reply : Reply) → length line ≤ line_max → asks_change p line ≡ false → change p (line, reply) ≡ None
no_change_asked p line reply short asks = kept_change p (of.command p line) reply (sym (asks_is p line (of.command p line) short refl) ∙ asks)

-- ---- a group that is empty

file_rows : {T V : Type 0} (p : TextPolicy T V) (file : List ℕ) (rows : Rows) → recovered_rows p file ≡ Some rows → rows_in p file ≡ rows
file_rows p file rows is = ap (λ (o : Option Rows). unwrap_or o []) is

pub base_rows : {T V : Type 0} (p : TextPolicy T V) (file : List ℕ) (rows : Rows) → recovered_rows p file ≡ Some rows → rows_in p file ≡ rows
base_rows p file rows is = file_rows p file rows is

none_waits : {D T V : Type 0} (p : TextPolicy T V) (seen : D → List ℕ) (may_leave : D → List ℕ → Type 0) (log : LineLog D) (rows : Rows)
    → IsSettled seen may_leave log → recovered_rows p (seen log.device) ≡ Some rows → IsStaged p seen may_leave log [] [] rows
none_waits p seen may_leave log rows settled is =
    let base = file_rows p (seen log.device) rows is in
    record {
      settled = settled;
      file = is ∙ ap (λ (r : Rows). Some r) (sym base);
      whole = refl;
      short = omega arith;
      room = λ some. absurd (omega (arith, some));
      table = ap (λ (r : Rows). Some r) base;
      undoes = sym base;
    }

pub empty_ready : {D P A B C E F G H T V : Type 0} (p : TextPolicy T V) (seen : D → List ℕ) (may_leave : D → List ℕ → Type 0) (s : Store D P A B C) (g : Group E F G H)
    → IsSound p seen may_leave s → lines_of g ≡ [] → count_of g ≡ 0 → IsReady p seen may_leave s g
empty_ready p seen may_leave s g sound lines none = record {
  staged = λ opened.
      let undo : undo_of g ≡ [] = nil_from_length (undo_of g) none in
      subst (λ (u : List (List ℕ × Option (List ℕ))). IsStaged p seen may_leave s.log (lines_of g) u (rows_of s)) (sym undo)
      (subst (λ (t : List ℕ). IsStaged p seen may_leave s.log t [] (rows_of s)) (sym lines)
      (none_waits p seen may_leave s.log (rows_of s) (sound.settled opened) (sound.rows opened)));
  closed = λ never. lines;
  none = λ never. none;
  some = λ is. lines;
}

-- ---- answers that can't be

pub set_open : {T V : Type 0} (p : TextPolicy T V) (takes : Bool) (rows : Rows) (size : ℕ) (user text : List ℕ) (may : Type 0)
    → (Ok tt ≡ stored_set p takes rows size user text) ⊎ ((◌≡◌ {A = Result (Unit {0}) (StoreError T V)} (Ok tt) (Err (Table refused.OutOfMemory))) × may)
    → (takes ≡ true) × (Ok tt ≡ stored_set p true rows size user text)
set_open p true rows size user text may (inl is) = (refl, is)
set_open p false rows size user text may (inl is) = absurd (cc is)
set_open p takes rows size user text may (inr (is, more)) = absurd (cc is)

pub upgrade_open : {T V : Type 0} (p : TextPolicy T V) (takes : Bool) (rows : Rows) (size : ℕ) (user password salt : List ℕ) (may : Bool) (f g : ℕ) (b : Bool)
    → IsStored (stored_upgrade p takes rows size user password salt) may (Ok true) f g (Ok b) → takes ≡ true
upgrade_open p true rows size user password salt may f g b is = refl
upgrade_open p false rows size user password salt may f g b (inl is) = absurd (cc is)
upgrade_open p false rows size user password salt may f g b (inr (inl (is, more))) = absurd (cc is)
upgrade_open p false rows size user password salt may f g b (inr (inr (is, more, risen))) = absurd (cc is)

pub refuses_as : {T V : Type 0} (p : TextPolicy T V) (rows rows_now : Rows) (size size_now : ℕ) (line : List ℕ) (e : StoreError T V) → rows_now ≡ rows → size_now ≡ size
    → Refuses p rows size line e → Refuses p rows_now size_now line e
refuses_as p rows rows_now size size_now line e same as_big has =
    subst (λ (r : Rows). Refuses p r size_now line e) (sym same) (subst (λ (n : ℕ). Refuses p rows n line e) (sym as_big) has)

pub set_refused : {T V : Type 0} (p : TextPolicy T V) (takes : Bool) (rows : Rows) (size : ℕ) (line user text : List ℕ) → Asks p line (of.Set user text) → sets_refused p line ≡ false → (e : StoreError T V) → takes ≡ true
    → (Err e ≡ stored_set p takes rows size user text)
    ⊎ ((◌≡◌ {A = Result (Unit {0}) (StoreError T V)} (Err e) (Err (Table refused.OutOfMemory))) × (is_ok (set_answer p (text_in rows user) (length rows) text) ≡ true))
    → Refuses p rows size line e
set_refused p true rows size line user text asks free e opened answer = set_refuses p rows size line user text asks free e answer
set_refused p false rows size line user text asks free e opened answer = absurd (cc opened)

pub remove_open : {T V : Type 0} (p : TextPolicy T V) (takes : Bool) (rows : Rows) (size : ℕ) (user : List ℕ) (f g : ℕ)
    → IsStored (stored_remove p takes rows size user) false (Ok tt) f g (Ok tt) → takes ≡ true
remove_open p true rows size user f g is = refl
remove_open p false rows size user f g (inl is) = absurd (cc is)
remove_open p false rows size user f g (inr (inl (is, more))) = absurd (cc is)
remove_open p false rows size user f g (inr (inr (is, more, risen))) = absurd (cc is)

-- the size after a removal, beside no bytes that wait
pub size_away : {T V : Type 0} (p : TextPolicy T V) (user : List ℕ) (size size_now waiting : ℕ) (result : Result (Unit {0}) (StoreError T V)) → waiting ≡ 0
    → size_now ≡ size_after_store_remove size user result → size_now + waiting ≡ size_after_store_remove (size + waiting) user result
size_away p user size size_now waiting (Ok done) none is = omega (arith, none, is)
size_away p user size size_now waiting (Err e) none is = omega (arith, none, is)

-- the size after an upgrade, beside no bytes that wait
pub size_with : {T V : Type 0} (p : TextPolicy T V) (user password salt : List ℕ) (size size_now waiting : ℕ) (result : Result Bool (StoreError T V)) → waiting ≡ 0
    → size_now ≡ size_after_store_upgrade p size user password salt result → size_now + waiting ≡ size_after_store_upgrade p (size + waiting) user password salt result
size_with p user password salt size size_now waiting (Ok true) none is = omega (arith, none, is)
size_with p user password salt size size_now waiting (Ok false) none is = omega (arith, none, is)
size_with p user password salt size size_now waiting (Err e) none is = omega (arith, none, is)

-- a refusal is no fault of the disk
not_fault : {T V : Type 0} (p : TextPolicy T V) (rows : Rows) (size : ℕ) (line : List ℕ) (e : StoreError T V) → Refuses p rows size line e
    → (is_disk_fault {A = Bool} (Err e) ≡ false) × (is_unwritten_upgrade (Err e) ≡ true)
not_fault p rows size line (Table e) has = (refl, refl)
not_fault p rows size line FileFull has = (refl, refl)
not_fault p rows size line DiskFault never = absurd never

no_fault_of : {T V : Type 0} (p : TextPolicy T V) (rows : Rows) (size : ℕ) (line : List ℕ) (e : StoreError T V) → Refuses p rows size line e
    → (is_disk_fault {A = Unit {0}} (Err e) ≡ false) × (is_unwritten_set {A = Unit {0}} (Err e) ≡ true)
no_fault_of p rows size line (Table e) has = (refl, refl)
no_fault_of p rows size line FileFull has = (refl, refl)
no_fault_of p rows size line DiskFault never = absurd never

long_asks : {T V : Type 0} (p : TextPolicy T V) (line : List ℕ) → line_max < length line → asks_change p line ≡ false
unfolding asks_change
long_asks p line long = ap (λ (b : Bool). cond b false (is_change (of.command p line))) (long_is line long)

-- a line that is too long
pub long_says : {T V : Type 0} (p : TextPolicy T V) (rows : Rows) (size : ℕ) (takes : Bool) (line : List ℕ) → line_max < length line
    → store_reply p (state rows size (fate_now takes)) line ≡ Says w.TooLong
long_says p rows size takes line long =
    let said : table_reply p rows line ≡ Says w.TooLong = long_reply p rows line long in
    let none : change p (line, table_reply p rows line) ≡ None = ap (λ (q : Reply). change p (line, q)) said ∙ unchanged p (of.command p line) w.TooLong refl refl in
    other_reply p rows size (fate_now takes) line (long_asks p line long) none ∙ said

-- ---- a run goes on

module _ {D T V : Type 0} (p : TextPolicy T V) (seen : D → List ℕ) (may_leave : D → List ℕ → Type 0) (moment : D → ℕ) (left_since : D → ℕ → List ℕ → Type 0)
    (disk_faults : D → ℕ) (from : Begun D) where
  -- its replies are `ok`
  abbrev pub Runs : List (List ℕ) → Held D → OutputBuffer → Option (List ℕ) → ℕ → Bool → Type 0
  Runs asked held out written faults all = Progress p seen may_leave moment left_since disk_faults from asked held (oks held.count) out written faults all

  pub none_owed : (asked : List (List ℕ)) (held : Held D) (out : OutputBuffer) (written : Option (List ℕ)) (faults : ℕ) (all : Bool) → held.count ≡ 0
      → Progress p seen may_leave moment left_since disk_faults from asked held [] out written faults all → Runs asked held out written faults all
  none_owed asked held out written faults all none so_far =
      held_as p seen may_leave moment left_since disk_faults from asked held [] out written faults all so_far held (oks held.count) refl refl (λ is. refl) refl refl (ap oks none)

  -- the table came to be the same
  pub runs_as : (asked : List (List ℕ)) (held : Held D) (out : OutputBuffer) (written : Option (List ℕ)) (faults : ℕ) (all : Bool) (rows_now : Rows) → rows_now ≡ held.rows
      → Runs asked held out written faults all
      → Runs asked (record { takes = held.takes; rows = rows_now; size = held.size; device = held.device; count = held.count }) out written faults all
  runs_as asked held out written faults all rows_now same so_far =
      held_as p seen may_leave moment left_since disk_faults from asked held (oks held.count) out written faults all so_far
      (record { takes = held.takes; rows = rows_now; size = held.size; device = held.device; count = held.count }) (oks held.count) refl same (λ is. refl) refl refl refl

  pub wanted_as : (asked : List (List ℕ)) (held : Held D) (out : OutputBuffer) (written : Option (List ℕ)) (faults : ℕ) (all : Bool) (line : List ℕ) (rows_now : Rows) → rows_now ≡ held.rows
      → Runs asked held out written faults all × Lacks p held.rows held.takes line
      → Runs asked (record { takes = held.takes; rows = rows_now; size = held.size; device = held.device; count = held.count }) out written faults all
      × Lacks p rows_now held.takes line
  wanted_as asked held out written faults all line rows_now same (so_far, lacks) =
      (runs_as asked held out written faults all rows_now same so_far, subst (λ (r : Rows). Lacks p r held.takes line) (sym same) lacks)

  -- a `set` that waits
  pub set_waits : (asked : List (List ℕ)) (held : Held D) (out : OutputBuffer) (written : Option (List ℕ)) (faults : ℕ) (all : Bool) → Runs asked held out written faults all
      → held.takes ≡ true → (line user text : List ℕ) → asks_change p line ≡ true → Changes p held.rows held.size line (Says w.Done) (user, Some text)
      → (held_now : Held D) → held_now.takes ≡ held.takes → held_now.rows ≡ with_text held.rows user text → held_now.size ≡ size_after held.size user text
      → held_now.device ≡ held.device → held_now.count ≡ held.count + 1 → Runs (asked ++ line ∷ []) held_now out written faults (all && true)
  set_waits asked held out written faults all so_far opened line user text asks changes held_now still rows size device count =
      let more = waits p seen may_leave moment left_since disk_faults from asked held (oks held.count) out written faults all so_far opened line (Says w.Done) (user, Some text) asks refl changes.0 changes.1
      held_now (still ∙ opened) rows size device count in
      let next : held_now.count ≡ suc held.count = omega (arith, count) in
      held_as p seen may_leave moment left_since disk_faults from (asked ++ line ∷ []) held_now (oks held.count ++ reply_text (Says w.Done)) out written faults (all && true) more
      held_now (oks held_now.count) refl refl (λ is. refl) refl refl (ap oks next)

  module _ (asked : List (List ℕ)) (held : Held D) (out : OutputBuffer) (written : Option (List ℕ)) (faults : ℕ) (all : Bool)
      (so_far : Progress p seen may_leave moment left_since disk_faults from asked held [] out written faults all) (none : held.count ≡ 0)
      (out_now : OutputBuffer) (written_now : Option (List ℕ)) (faults_now : ℕ) where
    -- a line is answered that makes no change
    pub line_answered : (line : List ℕ) (reply : Reply)
        → ((size : ℕ) → (held.takes ≡ true → size ≡ held.size) → store_reply p (state held.rows size (fate_now held.takes)) line ≡ reply)
        → change p (line, reply) ≡ None → Puts written written_now faults faults_now out out_now (reply_text reply)
        → Runs (asked ++ line ∷ []) held out_now written_now faults_now (all && is_good reply)
    line_answered line reply says makes put =
        none_owed (asked ++ line ∷ []) held out_now written_now faults_now (all && is_good reply) none
        (answered p seen may_leave moment left_since disk_faults from asked held out written faults all so_far none line reply says makes out_now written_now faults_now put)

    -- where no write has failed, by the reply with this size
    open_says : (line : List ℕ) (reply : Reply) → held.takes ≡ true → store_reply p (state held.rows held.size None) line ≡ reply
        → (size : ℕ) → (held.takes ≡ true → size ≡ held.size) → store_reply p (state held.rows size (fate_now held.takes)) line ≡ reply
    open_says line reply opened is size same =
        ap (λ (b : Bool). store_reply p (state held.rows size (fate_now b)) line) opened ∙ ap (λ (n : ℕ). store_reply p (state held.rows n None) line) (same opened) ∙ is

    said : {E : Type 0} (line : List ℕ) (word : Word) (result : Result Bool E) → result ≡ Ok (is_good_word word)
        → ((size : ℕ) → (held.takes ≡ true → size ≡ held.size) → store_reply p (state held.rows size (fate_now held.takes)) line ≡ Says word)
        → change p (line, Says word) ≡ None → Puts written written_now faults faults_now out out_now (reply_text (Says word))
        → Served p held.rows held.takes (λ asked all. Runs asked held out_now written_now faults_now all) asked all line result
    said {E} line word result is says makes put =
        subst (λ (r : Result Bool E). Served p held.rows held.takes (λ asked all. Runs asked held out_now written_now faults_now all) asked all line r) (sym is)
        (line_answered line (Says word) says makes put)

    -- want of memory
    wanted : {E : Type 0} (line : List ℕ) (result : Result Bool E) → is_err result ≡ true → Lacks p held.rows held.takes line
        → Puts written written_now faults faults_now out out_now []
        → Served p held.rows held.takes (λ asked all. Runs asked held out_now written_now faults_now all) asked all line result
    wanted line (Ok b) is lacks put = absurd (cc is)
    wanted line (Err e) is lacks put = (
      none_owed asked held out_now written_now faults_now all none
          (put_nothing p seen may_leave moment left_since disk_faults from asked held [] out written faults all so_far out_now written_now faults_now put),
      lacks,
    )

    open_refusal : {E : Type 0} (line : List ℕ) (e : StoreError T V) (result : Result Bool E) → held.takes ≡ true → Refuses p held.rows held.size line e
        → Puts written written_now faults faults_now out out_now (refusal_text (refusal_of true e)) → IsRefusal (refusal_of true e) result
        → Served p held.rows held.takes (λ asked all. Runs asked held out_now written_now faults_now all) asked all line result
    open_refusal line (Table refused.OutOfMemory) result opened may put is =
        wanted line result is
        (λ size. ap (λ (b : Bool). store_lacks p (state held.rows size (fate_now b)) line) opened ∙ open_lacks p held.rows size line may.0 may.1) put
    open_refusal line (Table refused.NoUser) result opened stays put is = said line w.NoUser result is (open_says line (Says w.NoUser) opened stays.0) stays.1 put
    open_refusal line (Table refused.Locked) result opened stays put is = said line w.Locked result is (open_says line (Says w.Locked) opened stays.0) stays.1 put
    open_refusal line (Table refused.TextTooLong) result opened stays put is = said line w.TextLong result is (open_says line (Says w.TextLong) opened stays.0) stays.1 put
    open_refusal line (Table (refused.BadText fault)) result opened stays put is = said line w.BadText result is (open_says line (Says w.BadText) opened stays.0) stays.1 put
    open_refusal line (Table refused.Full) result opened stays put is = said line w.Full result is (open_says line (Says w.Full) opened stays.0) stays.1 put
    open_refusal line (Table (refused.BadSalt fault)) result opened stays put is = said line w.BadSalt result is (open_says line (Says w.BadSalt) opened stays.0) stays.1 put
    open_refusal line (Table (refused.Check fault)) result opened stays put is = said line w.Invalid result is (open_says line (Says w.Invalid) opened stays.0) stays.1 put
    open_refusal line (Table refused.TooCostly) result opened stays put is = said line w.TooCostly result is (open_says line (Says w.TooCostly) opened stays.0) stays.1 put
    open_refusal line (Table refused.Unmatched) result opened stays put is = said line w.Invalid result is (open_says line (Says w.Invalid) opened stays.0) stays.1 put
    open_refusal line (Table refused.Kept) result opened stays put is = said line w.Kept result is (open_says line (Says w.Kept) opened stays.0) stays.1 put
    open_refusal line FileFull result opened stays put is = said line w.FileFull result is (open_says line (Says w.FileFull) opened stays.0) stays.1 put
    open_refusal line DiskFault result opened never put is = absurd never

    -- a change is refused, as a write has failed
    closed_refusal : {E : Type 0} (line : List ℕ) (result : Result Bool E) → held.takes ≡ false → asks_change p line ≡ true
        → Puts written written_now faults faults_now out out_now (reply_text (Says w.DiskFault)) → result ≡ Ok false
        → Served p held.rows held.takes (λ asked all. Runs asked held out_now written_now faults_now all) asked all line result
    closed_refusal line result closed asks put is =
        said line w.DiskFault result is
        (λ size same. ap (λ (b : Bool). store_reply p (state held.rows size (fate_now b)) line) closed ∙ broken_reply p held.rows size line asks)
        (unchanged p (of.command p line) w.DiskFault refl refl) put

    pub refusal_served : {E : Type 0} (takes : Bool) → held.takes ≡ takes → (line : List ℕ) (e : StoreError T V) (result : Result Bool E) → asks_change p line ≡ true
        → (held.takes ≡ true → Refuses p held.rows held.size line e) → (word : Option Word) → word ≡ refusal_of held.takes e
        → Puts written written_now faults faults_now out out_now (refusal_text word) → IsRefusal word result
        → Served p held.rows held.takes (λ asked all. Runs asked held out_now written_now faults_now all) asked all line result
    refusal_served true opened line e result asks refuses word is put answer =
        let same : word ≡ refusal_of true e = is ∙ ap (λ (b : Bool). refusal_of b e) opened in
        open_refusal line e result opened (refuses opened) (subst (λ (o : Option Word). Puts written written_now faults faults_now out out_now (refusal_text o)) same put)
        (subst (λ (o : Option Word). IsRefusal o result) same answer)
    refusal_served false closed line e result asks refuses word is put answer =
        let same : word ≡ Some w.DiskFault = is ∙ ap (λ (b : Bool). refusal_of b e) closed in
        closed_refusal line result closed asks (subst (λ (o : Option Word). Puts written written_now faults faults_now out out_now (refusal_text o)) same put)
        (subst (λ (o : Option Word). IsRefusal o result) same answer)

    -- ---- a line that asks for no change

    pub other_served : (line : List ℕ) → length line ≤ line_max → asks_change p line ≡ false → (reply : Reply) → reply ≡ table_reply p held.rows line
        → (good : Bool) → good ≡ is_good reply → Puts written written_now faults faults_now out out_now (reply_text reply)
        → Runs (asked ++ line ∷ []) held out_now written_now faults_now (all && good)
    other_served line short asks reply is good goods put =
        subst (λ (b : Bool). Runs (asked ++ line ∷ []) held out_now written_now faults_now (all && b)) (sym goods)
        (line_answered line reply
        (λ size same. other_reply p held.rows size (fate_now held.takes) line asks (no_change_asked p line (table_reply p held.rows line) short asks) ∙ sym is)
        (no_change_asked p line reply short asks) put)

    pub other_wanted : (line : List ℕ) → asks_change p line ≡ false → table_is_costly p held.rows line ≡ true → Puts written written_now faults faults_now out out_now []
        → Runs asked held out_now written_now faults_now all × Lacks p held.rows held.takes line
    other_wanted line asks may put = (
      none_owed asked held out_now written_now faults_now all none
          (put_nothing p seen may_leave moment left_since disk_faults from asked held [] out written faults all so_far out_now written_now faults_now put),
      λ size. other_lacks p held.rows size (fate_now held.takes) line asks may,
    )

    -- ---- a change that is a group of its own

    module _ (opened : held.takes ≡ true) (line : List ℕ) (word : Word) (good : is_good_word word ≡ true) (user : List ℕ) (new : Option (List ℕ)) (asks : asks_change p line ≡ true)
        (changes : Changes p held.rows held.size line (Says word) (user, new))
        (file : rows_in p (seen held.device) ≡ held.rows) (held_now : Held D) (none_now : held_now.count ≡ 0)
        (crash : LeavesOnly moment left_since held.device held_now.device (λ c. StandsFor p held.rows c ⊎ StandsFor p (with_change held.rows user new) c)) where
      change_waits : Progress p seen may_leave moment left_since disk_faults from (asked ++ line ∷ [])
          (record { takes = true; rows = with_change held.rows user new; size = size_changed held.size user new; device = held.device; count = held.count + 1 })
          (reply_text (Says word)) out written faults (all && true)
      change_waits = waits p seen may_leave moment left_since disk_faults from asked held [] out written faults all so_far opened line (Says word) (user, new) asks good changes.0 changes.1
          (record { takes = true; rows = with_change held.rows user new; size = size_changed held.size user new; device = held.device; count = held.count + 1 }) refl refl refl refl refl

      crash_is : LeavesOnly moment left_since held.device held_now.device (λ c. StandsFor p (rows_in p (seen held.device)) c ⊎ StandsFor p (with_change held.rows user new) c)
      crash_is = subst (λ (r : Rows). LeavesOnly moment left_since held.device held_now.device (λ c. StandsFor p r c ⊎ StandsFor p (with_change held.rows user new) c)) (sym file) crash

      pub alone_done : held_now.takes ≡ true → held_now.rows ≡ with_change held.rows user new → held_now.size ≡ size_changed held.size user new
          → rows_in p (seen held_now.device) ≡ held_now.rows → disk_faults held.device ≤ disk_faults held_now.device
          → Puts written written_now faults faults_now out out_now (reply_text (Says word))
          → Runs (asked ++ line ∷ []) held_now out_now written_now faults_now (all && true)
      alone_done still rows size file_now count put =
          none_owed (asked ++ line ∷ []) held_now out_now written_now faults_now (all && true) none_now
          (settled p seen may_leave moment left_since disk_faults from (asked ++ line ∷ [])
          (record { takes = true; rows = with_change held.rows user new; size = size_changed held.size user new; device = held.device; count = held.count + 1 })
          (reply_text (Says word)) out written faults (all && true) change_waits refl held_now none_now out_now written_now faults_now crash_is still rows size file_now count put)

      pub alone_failed : held_now.takes ≡ false → held_now.rows ≡ held.rows
          → ((c : List ℕ) → may_leave held_now.device c → StandsFor p held.rows c ⊎ StandsFor p (with_change held.rows user new) c)
          → HasRisen (disk_faults held.device) (disk_faults held_now.device) → disk_faults held.device ≤ disk_faults held_now.device
          → Puts written written_now faults faults_now out out_now (reply_text (Says w.DiskFault))
          → Runs (asked ++ line ∷ []) held_now out_now written_now faults_now (all && false)
      alone_failed broken rows left risen count put =
          let one : held.count + 1 ≡ suc zero = omega (arith, none) in
          none_owed (asked ++ line ∷ []) held_now out_now written_now faults_now (all && false) none_now
          (failed p seen may_leave moment left_since disk_faults from (asked ++ line ∷ [])
          (record { takes = true; rows = with_change held.rows user new; size = size_changed held.size user new; device = held.device; count = held.count + 1 })
          (reply_text (Says word)) out written faults (all && true) change_waits refl held_now none_now out_now written_now faults_now crash_is
          (all && false) broken (rows ∙ sym file) (omega arith)
          (λ c has. subst (λ (r : Rows). StandsFor p r c ⊎ StandsFor p (with_change held.rows user new) c) (sym file) (left c has))
          risen count (subst (λ (n : ℕ). Puts written written_now faults faults_now out out_now (words n w.DiskFault)) (sym one) put))

  -- ---- what `upgrade` answers

  module _ (asked : List (List ℕ)) (held : Held D) (out : OutputBuffer) (written : Option (List ℕ)) (faults : ℕ) (all : Bool)
      (so_far : Progress p seen may_leave moment left_since disk_faults from asked held [] out written faults all) (none : held.count ≡ 0)
      (line user salt password : List ℕ) (asks : Asks p line (of.Upgrade user salt password)) (file : held.takes ≡ true → rows_in p (seen held.device) ≡ held.rows)
      (held_now : Held D) (none_now : held_now.count ≡ held.count) (out_now : OutputBuffer) (written_now : Option (List ℕ)) (faults_now : ℕ)
      (count : disk_faults held.device ≤ disk_faults held_now.device) where
    upgrade_asks : asks_change p line ≡ true
    upgrade_asks = asks_is p line (Some (of.Upgrade user salt password)) asks.0 asks.1

    idle_now : held_now.count ≡ 0
    idle_now = none_now ∙ none

    pub upgrade_answered : (may : Bool) (matches : Bool)
        → IsStored (stored_upgrade p held.takes held.rows held.size user password salt) may (Ok true) (disk_faults held.device) (disk_faults held_now.device) (Ok matches)
        → may ≡ upgrade_may_lack p (text_in held.rows user) password salt
        → held_now.takes ≡ held.takes && not (is_disk_fault {T = T} {V = V} (Ok matches)) → held_now.rows ≡ rows_after_store_upgrade p held.rows user password salt (Ok matches)
        → (held_now.takes ≡ true → held_now.size ≡ size_after_store_upgrade p held.size user password salt (Ok matches))
        → (held_now.takes ≡ true → rows_in p (seen held_now.device) ≡ held_now.rows)
        → (held.takes ≡ true → LeavesOnly moment left_since held.device held_now.device
        (λ c. StandsFor p held.rows c ⊎ StandsFor p (with_text held.rows user (p.fresh password salt)) c))
        → (is_unwritten_upgrade {T = T} {V = V} (Ok matches) ≡ true → held_now.device ≡ held.device)
        → Puts written written_now faults faults_now out out_now (reply_text (Says (verdict_word matches)))
        → Runs (asked ++ line ∷ []) held_now out_now written_now faults_now (all && matches)
    upgrade_answered may true answer same takes rows size file_now crash unwritten put =
        let opened : held.takes ≡ true = upgrade_open p held.takes held.rows held.size user password salt may (disk_faults held.device) (disk_faults held_now.device) true answer in
        let answer_open = subst (λ (b : Bool). IsStored (stored_upgrade p b held.rows held.size user password salt) (upgrade_may_lack p (text_in held.rows user) password salt) (Ok true)
        (disk_faults held.device) (disk_faults held_now.device) (Ok true)) opened
        (subst (λ (m : Bool). IsStored (stored_upgrade p held.takes held.rows held.size user password salt) m (Ok true) (disk_faults held.device) (disk_faults held_now.device) (Ok true)) same answer) in
        let changes = told_true p held.rows held.size line user salt password asks (disk_faults held.device) (disk_faults held_now.device) answer_open in
        let still : held_now.takes ≡ true = takes ∙ ap (λ (b : Bool). b && true) opened in
        alone_done asked held out written faults all so_far none out_now written_now faults_now opened line w.Upgraded refl user (Some (p.fresh password salt)) upgrade_asks changes (file opened) held_now idle_now
        (crash opened) still rows (size still) (file_now still) count put
    upgrade_answered may false answer same takes rows size file_now crash unwritten put =
        let opened : held.takes ≡ true = upgrade_open p held.takes held.rows held.size user password salt may (disk_faults held.device) (disk_faults held_now.device) false answer in
        let answer_open = subst (λ (b : Bool). IsStored (stored_upgrade p b held.rows held.size user password salt) (upgrade_may_lack p (text_in held.rows user) password salt) (Ok true)
        (disk_faults held.device) (disk_faults held_now.device) (Ok false)) opened
        (subst (λ (m : Bool). IsStored (stored_upgrade p held.takes held.rows held.size user password salt) m (Ok true) (disk_faults held.device) (disk_faults held_now.device) (Ok false)) same answer) in
        let stays = told_false p held.rows held.size line user salt password asks (disk_faults held.device) (disk_faults held_now.device) answer_open in
        let still : held_now.takes ≡ true = takes ∙ ap (λ (b : Bool). b && true) opened in
        let mid = held_as p seen may_leave moment left_since disk_faults from asked held [] out written faults all so_far held_now [] (still ∙ sym opened) rows size (unwritten refl) none_now refl in
        line_answered asked held_now out written faults all mid idle_now out_now written_now faults_now line (Says w.Mismatch)
        (open_says asked held_now out written faults all mid idle_now out_now written_now faults_now line (Says w.Mismatch) still
        (ap (λ (r : Rows). store_reply p (state r held_now.size None) line) rows ∙ ap (λ (n : ℕ). store_reply p (state held.rows n None) line) (size still) ∙ stays.0))
        stays.1 put

    pub upgrade_refused : {E : Type 0} (takes_before : Bool) → held.takes ≡ takes_before → (may : Bool) (e : StoreError T V) (result : Result Bool E)
        → IsStored (stored_upgrade p held.takes held.rows held.size user password salt) may (Ok true) (disk_faults held.device) (disk_faults held_now.device) (Err e)
        → may ≡ upgrade_may_lack p (text_in held.rows user) password salt
        → held_now.takes ≡ held.takes && not (is_disk_fault {A = Bool} (Err e)) → held_now.rows ≡ held.rows
        → (held_now.takes ≡ true → held_now.size ≡ held.size)
        → (held.takes ≡ true → LeavesOnly moment left_since held.device held_now.device
        (λ c. StandsFor p held.rows c ⊎ StandsFor p (with_text held.rows user (p.fresh password salt)) c))
        → (held.takes ≡ true → (c : List ℕ) → may_leave held_now.device c → StandsFor p held.rows c ⊎ StandsFor p (with_text held.rows user (p.fresh password salt)) c)
        → (is_unwritten_upgrade (Err e) ≡ true → held_now.device ≡ held.device) → (held.takes ≡ false → held_now.device ≡ held.device)
        → (word : Option Word) → word ≡ refusal_of held_now.takes e → Puts written written_now faults faults_now out out_now (refusal_text word) → IsRefusal word result
        → Served p held_now.rows held_now.takes (λ asked all. Runs asked held_now out_now written_now faults_now all) asked all line result
    upgrade_refused {E} true opened may e result answer same takes rows size crash left unwritten closed_device word is put answered_so =
        let answer_open = subst (λ (b : Bool). IsStored (stored_upgrade p b held.rows held.size user password salt) (upgrade_may_lack p (text_in held.rows user) password salt) (Ok true)
        (disk_faults held.device) (disk_faults held_now.device) (Err e)) opened
        (subst (λ (m : Bool). IsStored (stored_upgrade p held.takes held.rows held.size user password salt) m (Ok true) (disk_faults held.device) (disk_faults held_now.device) (Err e)) same answer) in
        ⊎_elim by_refusal by_fault (told_err p held.rows held.size line user salt password asks e (disk_faults held.device) (disk_faults held_now.device) answer_open)
      where
        by_refusal : Refuses p held.rows held.size line e → Served p held_now.rows held_now.takes (λ asked all. Runs asked held_now out_now written_now faults_now all) asked all line result
        by_refusal refuses =
            let kind = not_fault p held.rows held.size line e refuses in
            let still : held_now.takes ≡ true = takes ∙ ap (λ (b : Bool). b && not (is_disk_fault {A = Bool} (Err e))) opened ∙ ap not kind.0 in
            let mid = held_as p seen may_leave moment left_since disk_faults from asked held [] out written faults all so_far held_now [] (still ∙ sym opened) rows size (unwritten kind.1) none_now refl in
            refusal_served asked held_now out written faults all mid idle_now out_now written_now faults_now true still line e result upgrade_asks
            (λ opened. refuses_as p held.rows held_now.rows held.size held_now.size line e rows (size still) refuses) word is put answered_so

        by_fault : (e ≡ DiskFault) × (HasRisen (disk_faults held.device) (disk_faults held_now.device) × Changes p held.rows held.size line (Says w.Upgraded) (user, Some (p.fresh password salt)))
            → Served p held_now.rows held_now.takes (λ asked all. Runs asked held_now out_now written_now faults_now all) asked all line result
        by_fault (fault, (risen, changes)) =
            let broken : held_now.takes ≡ false = takes ∙ ap (λ (b : Bool). b && not (is_disk_fault {A = Bool} (Err e))) opened
            ∙ ap (λ (x : StoreError T V). not (is_disk_fault {A = Bool} (Err x))) fault in
            let word_is : word ≡ Some w.DiskFault = is ∙ ap (λ (b : Bool). refusal_of b e) broken in
            let answer_is : result ≡ Ok false = subst (λ (o : Option Word). IsRefusal o result) word_is answered_so in
            subst (λ (r : Result Bool E). Served p held_now.rows held_now.takes (λ asked all. Runs asked held_now out_now written_now faults_now all) asked all line r) (sym answer_is)
            (alone_failed asked held out written faults all so_far none out_now written_now faults_now opened line w.Upgraded refl user (Some (p.fresh password salt)) upgrade_asks changes (file opened) held_now idle_now
            (crash opened) broken rows (left opened) risen count
            (subst (λ (o : Option Word). Puts written written_now faults faults_now out out_now (refusal_text o)) word_is put))
    upgrade_refused {E} false closed may e result answer same takes rows size crash left unwritten closed_device word is put answered_so =
        let still : held_now.takes ≡ false = takes ∙ ap (λ (b : Bool). b && not (is_disk_fault {A = Bool} (Err e))) closed in
        let mid = held_as p seen may_leave moment left_since disk_faults from asked held [] out written faults all so_far held_now [] (still ∙ sym closed) rows size (closed_device closed) none_now refl in
        refusal_served asked held_now out written faults all mid idle_now out_now written_now faults_now false still line e result upgrade_asks
        (λ opened. not_both held_now.takes opened still) word is put answered_so

  -- ---- what `remove` answers

  module _ (asked : List (List ℕ)) (held : Held D) (out : OutputBuffer) (written : Option (List ℕ)) (faults : ℕ) (all : Bool)
      (so_far : Progress p seen may_leave moment left_since disk_faults from asked held [] out written faults all) (none : held.count ≡ 0)
      (line user : List ℕ) (asks : Asks p line (of.Remove user)) (file : held.takes ≡ true → rows_in p (seen held.device) ≡ held.rows)
      (held_now : Held D) (none_now : held_now.count ≡ held.count) (out_now : OutputBuffer) (written_now : Option (List ℕ)) (faults_now : ℕ)
      (count : disk_faults held.device ≤ disk_faults held_now.device) where
    remove_asks : asks_change p line ≡ true
    remove_asks = asks_is p line (Some (of.Remove user)) asks.0 asks.1

    idle_then : held_now.count ≡ 0
    idle_then = none_now ∙ none

    pub remove_answered : IsStored (stored_remove p held.takes held.rows held.size user) false (Ok tt) (disk_faults held.device) (disk_faults held_now.device) (Ok tt)
        → held_now.takes ≡ held.takes && not (is_disk_fault {A = Unit {0}} {T = T} {V = V} (Ok tt)) → held_now.rows ≡ without held.rows user
        → (held_now.takes ≡ true → held_now.size ≡ size_changed held.size user None)
        → (held_now.takes ≡ true → rows_in p (seen held_now.device) ≡ held_now.rows)
        → (held.takes ≡ true → LeavesOnly moment left_since held.device held_now.device (λ c. StandsFor p held.rows c ⊎ StandsFor p (without held.rows user) c))
        → Puts written written_now faults faults_now out out_now (reply_text (Says w.Done))
        → Runs (asked ++ line ∷ []) held_now out_now written_now faults_now (all && true)
    remove_answered answer takes rows size file_now crash put =
        let opened : held.takes ≡ true = remove_open p held.takes held.rows held.size user (disk_faults held.device) (disk_faults held_now.device) answer in
        let answer_open = subst (λ (b : Bool). IsStored (stored_remove p b held.rows held.size user) false (Ok tt) (disk_faults held.device) (disk_faults held_now.device) (Ok tt)) opened answer in
        let changes = removed_says p held.rows held.size line user asks (disk_faults held.device) (disk_faults held_now.device) answer_open in
        let still : held_now.takes ≡ true = takes ∙ ap (λ (b : Bool). b && true) opened in
        alone_done asked held out written faults all so_far none out_now written_now faults_now opened line w.Done refl user None remove_asks changes (file opened) held_now idle_then
        (crash opened) still rows (size still) (file_now still) count put

    pub remove_refused : {E : Type 0} (takes_before : Bool) → held.takes ≡ takes_before → (e : StoreError T V) (result : Result Bool E)
        → IsStored (stored_remove p held.takes held.rows held.size user) false (Ok tt) (disk_faults held.device) (disk_faults held_now.device) (Err e)
        → held_now.takes ≡ held.takes && not (is_disk_fault {A = Unit {0}} (Err e)) → held_now.rows ≡ held.rows
        → (held_now.takes ≡ true → held_now.size ≡ held.size)
        → (held.takes ≡ true → LeavesOnly moment left_since held.device held_now.device (λ c. StandsFor p held.rows c ⊎ StandsFor p (without held.rows user) c))
        → (held.takes ≡ true → (c : List ℕ) → may_leave held_now.device c → StandsFor p held.rows c ⊎ StandsFor p (without held.rows user) c)
        → (is_unwritten_set {A = Unit {0}} (Err e) ≡ true → held_now.device ≡ held.device) → (held.takes ≡ false → held_now.device ≡ held.device)
        → (word : Option Word) → word ≡ refusal_of held_now.takes e → Puts written written_now faults faults_now out out_now (refusal_text word) → IsRefusal word result
        → Served p held_now.rows held_now.takes (λ asked all. Runs asked held_now out_now written_now faults_now all) asked all line result
    remove_refused {E} true opened e result answer takes rows size crash left unwritten closed_device word is put answered_so =
        let answer_open = subst (λ (b : Bool). IsStored (stored_remove p b held.rows held.size user) false (Ok tt) (disk_faults held.device) (disk_faults held_now.device) (Err e)) opened answer in
        ⊎_elim by_refusal by_fault (unremoved_says p held.rows held.size line user asks e (disk_faults held.device) (disk_faults held_now.device) answer_open)
      where
        by_refusal : Refuses p held.rows held.size line e → Served p held_now.rows held_now.takes (λ asked all. Runs asked held_now out_now written_now faults_now all) asked all line result
        by_refusal refuses =
            let kind = no_fault_of p held.rows held.size line e refuses in
            let still : held_now.takes ≡ true = takes ∙ ap (λ (b : Bool). b && not (is_disk_fault {A = Unit {0}} (Err e))) opened ∙ ap not kind.0 in
            let mid = held_as p seen may_leave moment left_since disk_faults from asked held [] out written faults all so_far held_now [] (still ∙ sym opened) rows size (unwritten kind.1) none_now refl in
            refusal_served asked held_now out written faults all mid idle_then out_now written_now faults_now true still line e result remove_asks
            (λ opened. refuses_as p held.rows held_now.rows held.size held_now.size line e rows (size still) refuses) word is put answered_so

        by_fault : (e ≡ DiskFault) × (HasRisen (disk_faults held.device) (disk_faults held_now.device) × Changes p held.rows held.size line (Says w.Done) (user, None))
            → Served p held_now.rows held_now.takes (λ asked all. Runs asked held_now out_now written_now faults_now all) asked all line result
        by_fault (fault, (risen, changes)) =
            let broken : held_now.takes ≡ false = takes ∙ ap (λ (b : Bool). b && not (is_disk_fault {A = Unit {0}} (Err e))) opened
            ∙ ap (λ (x : StoreError T V). not (is_disk_fault {A = Unit {0}} (Err x))) fault in
            let word_is : word ≡ Some w.DiskFault = is ∙ ap (λ (b : Bool). refusal_of b e) broken in
            let answer_is : result ≡ Ok false = subst (λ (o : Option Word). IsRefusal o result) word_is answered_so in
            subst (λ (r : Result Bool E). Served p held_now.rows held_now.takes (λ asked all. Runs asked held_now out_now written_now faults_now all) asked all line r) (sym answer_is)
            (alone_failed asked held out written faults all so_far none out_now written_now faults_now opened line w.Done refl user None remove_asks changes (file opened) held_now idle_then
            (crash opened) broken rows (left opened) risen count
            (subst (λ (o : Option Word). Puts written written_now faults faults_now out out_now (refusal_text o)) word_is put))
    remove_refused {E} false closed e result answer takes rows size crash left unwritten closed_device word is put answered_so =
        let still : held_now.takes ≡ false = takes ∙ ap (λ (b : Bool). b && not (is_disk_fault {A = Unit {0}} (Err e))) closed in
        let mid = held_as p seen may_leave moment left_since disk_faults from asked held [] out written faults all so_far held_now [] (still ∙ sym closed) rows size (closed_device closed) none_now refl in
        refusal_served asked held_now out written faults all mid idle_then out_now written_now faults_now false still line e result remove_asks
        (λ opened. not_both held_now.takes opened still) word is put answered_so
