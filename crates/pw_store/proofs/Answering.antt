-- What the answers of the table and of the file tell of the reply to a line, where no write has failed.
use Rattle.std.proofs.Common.{◌≡◌, ◌⊎◌, inl, inr, ℕ, Bool, true, false, cond, List, length, refl, sym, ap, ◌∙◌, subst, Option, Some, None, Result, Ok, Err}
use Rattle.std.specs.Prelude.{is_ok, nat_le}
use Rattle.pieces.specs.FaultCounts.{HasRisen}
use Rattle.line_log.specs.Log.{file_max}
use Rattle.pw_file.specs.Answers.{remove_answer, set_answer, upgrade_answer, upgrade_may_lack}
use Rattle.pw_file.specs.Calls.{with_text, without}
use Rattle.pw_file.specs.Commands as of
use Rattle.pw_file.specs.History.{Change, Reply, Rows, Says, change, change_of, text_in}
use Rattle.pw_file.specs.Lines.{AnswersLineOver, Asks, line_reply}
use Rattle.pw_file.specs.Policy.{TextPolicy}
use Rattle.pw_file.specs.Replies.{error_word}
use Rattle.pw_file.specs.Rules.{table_is_costly, table_reply}
use Rattle.pw_file.specs.declared.error.FileError.{FileError}
use Rattle.pw_file.specs.declared.error.FileError.TheVariants as refused
use Rattle.pw_file.specs.declared.reply.LineReply.TheVariants as replies
use Rattle.pw_file.specs.declared.reply.Word.TheVariants.{Done, Mismatch, Upgraded}
use Rattle.pw_file.specs.declared.reply.Word.TheVariants as w
use Rattle.pw_file.proofs.Calls.{no_change, unchanged}
use Rattle.pw_file.proofs.LineAnswers.{remove_answered, set_answered, upgrade_answered}
use Rattle.pw_store.specs.Run.{sets_refused, state, store_reply}
use Rattle.pw_store.specs.Stored.{IsStored, by_file, set_by, size_after, size_changed, stored_remove, stored_set, stored_upgrade, upgrade_by}
use Rattle.pw_store.specs.declared.error.StoreError.{StoreError}
use Rattle.pw_store.specs.declared.error.StoreError.TheVariants.{Table, DiskFault, FileFull}
use Rattle.pw_store.proofs.Fates.{open_reply, refused_as, refused_reply}

-- ---- refusals

-- the reply, which makes no change
abbrev pub Stays : {T V : Type 0} → TextPolicy T V → Rows → ℕ → List ℕ → Reply → Type 0
Stays p rows size line reply = (store_reply p (state rows size None) line ≡ reply) × (change p (line, reply) ≡ None)

-- the reply, which makes this change
abbrev pub Changes : {T V : Type 0} → TextPolicy T V → Rows → ℕ → List ℕ → Reply → Change → Type 0
Changes p rows size line reply c = (store_reply p (state rows size None) line ≡ reply) × (change p (line, reply) ≡ Some c)

-- a refusal that isn't want of memory is the reply; where memory may be wanting, there is none
abbrev pub Refuses : {T V : Type 0} → TextPolicy T V → Rows → ℕ → List ℕ → StoreError T V → Type 0
Refuses p rows size line (Table refused.OutOfMemory) = (sets_refused p line ≡ false) × (table_is_costly p rows line ≡ true)
Refuses p rows size line (Table e) = Stays p rows size line (Says (error_word e))
Refuses p rows size line FileFull = Stays p rows size line (Says w.FileFull)
Refuses p rows size line DiskFault = ⊥

-- a refusal of the table
table_refusal : {T V : Type 0} (p : TextPolicy T V) (rows : Rows) (size : ℕ) (line : List ℕ) (free : sets_refused p line ≡ false) (e : FileError T V) → table_reply p rows line ≡ Says (error_word e)
    → Stays p rows size line (Says (error_word e))
table_refusal p rows size line free e is =
    let never = no_change e in
    let none : change p (line, Says (error_word e)) ≡ None = unchanged p (of.command p line) (error_word e) never.0 never.1 in
    (open_reply p rows size line (Says (error_word e)) None free is none, none)

refuses_by : {T V : Type 0} (p : TextPolicy T V) (rows : Rows) (size : ℕ) (line : List ℕ) (free : sets_refused p line ≡ false) (e : FileError T V) (A : Type 0) → AnswersLineOver p rows line rows (line_reply {A = A} (Err e) (error_word e)) → Refuses p rows size line (Table e)
refuses_by p rows size line free refused.OutOfMemory A over = (free, over.0)
refuses_by p rows size line free refused.Locked A over = table_refusal p rows size line free refused.Locked (sym over.0)
refuses_by p rows size line free refused.NoUser A over = table_refusal p rows size line free refused.NoUser (sym over.0)
refuses_by p rows size line free refused.TextTooLong A over = table_refusal p rows size line free refused.TextTooLong (sym over.0)
refuses_by p rows size line free (refused.BadText fault) A over = table_refusal p rows size line free (refused.BadText fault) (sym over.0)
refuses_by p rows size line free refused.Full A over = table_refusal p rows size line free refused.Full (sym over.0)
refuses_by p rows size line free (refused.BadSalt fault) A over = table_refusal p rows size line free (refused.BadSalt fault) (sym over.0)
refuses_by p rows size line free (refused.Check fault) A over = table_refusal p rows size line free (refused.Check fault) (sym over.0)
refuses_by p rows size line free refused.TooCostly A over = table_refusal p rows size line free refused.TooCostly (sym over.0)
refuses_by p rows size line free refused.Unmatched A over = table_refusal p rows size line free refused.Unmatched (sym over.0)
refuses_by p rows size line free refused.Kept A over = table_refusal p rows size line free refused.Kept (sym over.0)

-- a text that no run sets
pub unmatched_says : {T V : Type 0} (p : TextPolicy T V) (rows : Rows) (size : ℕ) (line : List ℕ) → sets_refused p line ≡ true
    → Refuses p rows size line (Table refused.Unmatched)
unmatched_says p rows size line sets = (refused_reply p rows size line sets, unchanged p (of.command p line) w.Invalid refl refl)

-- ---- room

no_value : {A T V : Type 0} (b : A) (e : StoreError T V) → Ok b ≡ Err e → ⊥
no_value b e is = cc

by_ok : {A T V : Type 0} (size : ℕ) (a b : A) (t : Bool) → nat_le size file_max ≡ t → Ok b ≡ by_file {T = T} {V = V} size a → nat_le size file_max ≡ true
by_ok size a b true t is = t
by_ok {A} {T} {V} size a b false t is = absurd (no_value {A = A} {T = T} {V = V} b FileFull (is ∙ ap (λ (x : Bool). cond x (Ok a) (Err FileFull)) t))

by_full : {A T V : Type 0} (size : ℕ) (a : A) (e : StoreError T V) (t : Bool) → nat_le size file_max ≡ t → Err e ≡ by_file size a → (e ≡ FileFull) × (nat_le size file_max ≡ false)
by_full size a e true t is = absurd (cc (is ∙ ap (λ (x : Bool). cond x (Ok a) (Err FileFull)) t))
by_full size a e false t is = (cc (is ∙ ap (λ (x : Bool). cond x (Ok a) (Err FileFull)) t), t)

-- a change for which there is room, or none
module _ {T V : Type 0} (p : TextPolicy T V) (rows : Rows) (size : ℕ) (line : List ℕ) (said : Reply) (user : List ℕ) (new : Option (List ℕ)) (free : sets_refused p line ≡ false) (is : table_reply p rows line ≡ said)
    (makes : change p (line, said) ≡ Some (user, new)) where
  pub roomy : nat_le (size_changed size user new) file_max ≡ true → Changes p rows size line said (user, new)
  roomy room = (
    open_reply p rows size line said (Some (user, new)) free is makes
        ∙ ap (λ (b : Bool). cond b said (Says w.FileFull)) room,
    makes,
  )

  pub full : nat_le (size_changed size user new) file_max ≡ false → Stays p rows size line (Says w.FileFull)
  full room = (
    open_reply p rows size line said (Some (user, new)) free is makes
        ∙ ap (λ (b : Bool). cond b said (Says w.FileFull)) room,
    unchanged p (of.command p line) w.FileFull refl refl,
  )

-- ---- set

set_ok : {T V : Type 0} (size : ℕ) (a : Result (Unit {0}) (FileError T V)) → Ok tt ≡ set_by size a → (a ≡ Ok tt) × (nat_le size file_max ≡ true)
set_ok size (Ok done) is = (refl, by_ok size tt tt (nat_le size file_max) refl is)
set_ok size (Err e) is = absurd (cc is)

module _ {T V : Type 0} (p : TextPolicy T V) (rows : Rows) (size : ℕ) (line user text : List ℕ) (asks : Asks p line (of.Set user text)) (free : sets_refused p line ≡ false) where
  set_done : set_answer p (text_in rows user) (length rows) text ≡ Ok tt → table_reply p rows line ≡ Says Done
  set_done ok =
      let over : AnswersLineOver p rows line (with_text rows user text) (Some (replies.Word Done)) =
      set_answered p rows line user text (with_text rows user text) (Ok tt) asks (inl (sym ok)) refl in
      sym over.0

  set_changes : change p (line, Says Done) ≡ Some (user, Some text)
  set_changes = ap (λ (c : Option of.Command). change_of p c (Says Done)) asks.1

  -- a change that waits is to be answered `ok`
  pub set_staged : Ok tt ≡ stored_set p true rows size user text → Changes p rows size line (Says Done) (user, Some text)
  set_staged is =
      let ok = set_ok (size_after size user text) (set_answer p (text_in rows user) (length rows) text) is in
      roomy p rows size line (Says Done) user (Some text) free (set_done ok.0) set_changes ok.1

  set_err : (a : Result (Unit {0}) (FileError T V)) → set_answer p (text_in rows user) (length rows) text ≡ a → (e : StoreError T V)
      → Err e ≡ set_by (size_after size user text) a → Refuses p rows size line e
  set_err (Ok done) ok e is =
      let f = by_full (size_after size user text) tt e (nat_le (size_after size user text) file_max) refl is in
      subst (λ (x : StoreError T V). Refuses p rows size line x) (sym f.0)
      (full p rows size line (Says Done) user (Some text) free (set_done ok) set_changes f.1)
  set_err (Err f) ok e is =
      let same : e ≡ Table f = cc is in
      subst (λ (x : StoreError T V). Refuses p rows size line x) (sym same)
      (refuses_by p rows size line free f (Unit {0}) (set_answered p rows line user text rows (Err f) asks (inl (sym ok)) refl))

  pub set_refuses : (e : StoreError T V) → (Err e ≡ stored_set p true rows size user text)
      ⊎ ((◌≡◌ {A = Result (Unit {0}) (StoreError T V)} (Err e) (Err (Table refused.OutOfMemory))) × (is_ok (set_answer p (text_in rows user) (length rows) text) ≡ true))
      → Refuses p rows size line e
  set_refuses e (inl is) = set_err (set_answer p (text_in rows user) (length rows) text) refl e is
  set_refuses e (inr (is, may)) =
      let same : e ≡ Table refused.OutOfMemory = cc is in
      subst (λ (x : StoreError T V). Refuses p rows size line x) (sym same)
      (free, (set_answered p rows line user text rows (Err refused.OutOfMemory) asks (inr (refl, may)) refl).0)

-- ---- remove

module _ {T V : Type 0} (p : TextPolicy T V) (rows : Rows) (size : ℕ) (line user : List ℕ) (asks : Asks p line (of.Remove user)) where
  remove_free : sets_refused p line ≡ false
  remove_free = refused_as p line (of.Remove user) asks

  remove_done : remove_answer p (text_in rows user) ≡ Ok tt → table_reply p rows line ≡ Says Done
  remove_done ok =
      let over : AnswersLineOver p rows line (without rows user) (Some (replies.Word Done)) =
      remove_answered p rows line user (without rows user) (Ok tt) asks (sym ok) refl in
      sym over.0

  remove_changes : change p (line, Says Done) ≡ Some (user, None)
  remove_changes = ap (λ (c : Option of.Command). change_of p c (Says Done)) asks.1

  removal : (size_ok : nat_le (size_changed size user None) file_max ≡ true) → remove_answer p (text_in rows user) ≡ Ok tt
      → Changes p rows size line (Says Done) (user, None)
  removal room ok = roomy p rows size line (Says Done) user None remove_free (remove_done ok) remove_changes room

  remove_err : (a : Result (Unit {0}) (FileError T V)) → remove_answer p (text_in rows user) ≡ a → (e : StoreError T V)
      → Err e ≡ set_by (size_changed size user None) a → Refuses p rows size line e
  remove_err (Ok done) ok e is =
      let f = by_full (size_changed size user None) tt e (nat_le (size_changed size user None) file_max) refl is in
      subst (λ (x : StoreError T V). Refuses p rows size line x) (sym f.0)
      (full p rows size line (Says Done) user None remove_free (remove_done ok) remove_changes f.1)
  remove_err (Err f) ok e is =
      let same : e ≡ Table f = cc is in
      subst (λ (x : StoreError T V). Refuses p rows size line x) (sym same)
      (refuses_by p rows size line remove_free f (Unit {0}) (remove_answered p rows line user rows (Err f) asks (sym ok) refl))

  -- what an answer of `remove` tells of the reply to its line
  abbrev TellsRemoval : Result (Unit {0}) (StoreError T V) → ℕ → ℕ → Type 0
  TellsRemoval answer faults faults_now = IsStored (stored_remove p true rows size user) false (Ok tt) faults faults_now answer

  pub removed_says : (faults faults_now : ℕ) → TellsRemoval (Ok tt) faults faults_now → Changes p rows size line (Says Done) (user, None)
  removed_says f g (inl is) =
      let ok = set_ok (size_changed size user None) (remove_answer p (text_in rows user)) is in
      removal ok.1 ok.0
  removed_says f g (inr (inl (is, may))) = absurd (cc is)
  removed_says f g (inr (inr (is, more, risen))) = absurd (cc is)

  -- or the disk failed, where it was to be changed
  pub unremoved_says : (e : StoreError T V) (faults faults_now : ℕ) → TellsRemoval (Err e) faults faults_now
      → Refuses p rows size line e ⊎ ((e ≡ DiskFault) × (HasRisen faults faults_now × Changes p rows size line (Says Done) (user, None)))
  unremoved_says e f g (inl is) = inl (remove_err (remove_answer p (text_in rows user)) refl e is)
  unremoved_says e f g (inr (inl (is, may))) = absurd (cc may)
  unremoved_says e f g (inr (inr (is, done, risen))) =
      let ok = set_ok (size_changed size user None) (remove_answer p (text_in rows user)) (sym done) in
      inr (cc is, (risen, removal ok.1 ok.0))

-- ---- upgrade

upgrade_ok : {T V : Type 0} (size : ℕ) (a : Result Bool (FileError T V)) → Ok true ≡ upgrade_by size a → (a ≡ Ok true) × (nat_le size file_max ≡ true)
upgrade_ok size (Ok true) is = (refl, by_ok size true true (nat_le size file_max) refl is)
upgrade_ok size (Ok false) is = absurd (cc is)
upgrade_ok size (Err e) is = absurd (cc is)

upgrade_not : {T V : Type 0} (size : ℕ) (a : Result Bool (FileError T V)) (t : Bool) → nat_le size file_max ≡ t → Ok false ≡ upgrade_by size a → a ≡ Ok false
upgrade_not size (Ok true) true t is = absurd (cc (is ∙ ap (λ (x : Bool). cond x (Ok true) (Err FileFull)) t))
upgrade_not size (Ok true) false t is = absurd (cc (is ∙ ap (λ (x : Bool). cond x (Ok true) (Err FileFull)) t))
upgrade_not size (Ok false) t at is = refl
upgrade_not size (Err e) t at is = absurd (cc is)

module _ {T V : Type 0} (p : TextPolicy T V) (rows : Rows) (size : ℕ) (line user salt password : List ℕ) (asks : Asks p line (of.Upgrade user salt password)) where
  upgrade_free : sets_refused p line ≡ false
  upgrade_free = refused_as p line (of.Upgrade user salt password) asks

  upgrade_done : upgrade_answer p (text_in rows user) password salt ≡ Ok true → table_reply p rows line ≡ Says Upgraded
  upgrade_done ok =
      let over : AnswersLineOver p rows line (with_text rows user (p.fresh password salt)) (Some (replies.Word Upgraded)) =
      upgrade_answered p rows line user salt password (with_text rows user (p.fresh password salt)) (Ok true) asks (inl (sym ok)) refl in
      sym over.0

  upgrade_changes : change p (line, Says Upgraded) ≡ Some (user, Some (p.fresh password salt))
  upgrade_changes = ap (λ (c : Option of.Command). change_of p c (Says Upgraded)) asks.1

  matched : upgrade_answer p (text_in rows user) password salt ≡ Ok true → nat_le (size_after size user (p.fresh password salt)) file_max ≡ true
      → Changes p rows size line (Says Upgraded) (user, Some (p.fresh password salt))
  matched ok room = roomy p rows size line (Says Upgraded) user (Some (p.fresh password salt)) upgrade_free (upgrade_done ok) upgrade_changes room

  unmatched : upgrade_answer p (text_in rows user) password salt ≡ Ok false → Stays p rows size line (Says Mismatch)
  unmatched ok =
      let over : AnswersLineOver p rows line rows (Some (replies.Word Mismatch)) =
      upgrade_answered p rows line user salt password rows (Ok false) asks (inl (sym ok)) refl in
      let none : change p (line, Says Mismatch) ≡ None = unchanged p (of.command p line) Mismatch refl refl in
      (open_reply p rows size line (Says Mismatch) None upgrade_free (sym over.0) none, none)

  upgrade_err : (a : Result Bool (FileError T V)) → upgrade_answer p (text_in rows user) password salt ≡ a → (e : StoreError T V)
      → Err e ≡ upgrade_by (size_after size user (p.fresh password salt)) a → Refuses p rows size line e
  upgrade_err (Ok true) ok e is =
      let more = size_after size user (p.fresh password salt) in
      let f = by_full more true e (nat_le more file_max) refl is in
      subst (λ (x : StoreError T V). Refuses p rows size line x) (sym f.0)
      (full p rows size line (Says Upgraded) user (Some (p.fresh password salt)) upgrade_free (upgrade_done ok) upgrade_changes f.1)
  upgrade_err (Ok false) ok e is = absurd (cc is)
  upgrade_err (Err f) ok e is =
      let same : e ≡ Table f = cc is in
      subst (λ (x : StoreError T V). Refuses p rows size line x) (sym same)
      (refuses_by p rows size line upgrade_free f Bool (upgrade_answered p rows line user salt password rows (Err f) asks (inl (sym ok)) refl))

  -- what an answer of `upgrade` tells of the reply to its line
  abbrev pub Tells : Result Bool (StoreError T V) → ℕ → ℕ → Type 0
  Tells answer faults faults_now = IsStored (stored_upgrade p true rows size user password salt) (upgrade_may_lack p (text_in rows user) password salt) (Ok true) faults faults_now answer

  wants : upgrade_may_lack p (text_in rows user) password salt ≡ true → (sets_refused p line ≡ false) × (table_is_costly p rows line ≡ true)
  wants may = (upgrade_free, (upgrade_answered p rows line user salt password rows (Err refused.OutOfMemory) asks (inr (refl, may)) refl).0)

  pub told_true : (faults faults_now : ℕ) → Tells (Ok true) faults faults_now → Changes p rows size line (Says Upgraded) (user, Some (p.fresh password salt))
  told_true f g (inl is) =
      let ok = upgrade_ok (size_after size user (p.fresh password salt)) (upgrade_answer p (text_in rows user) password salt) is in
      matched ok.0 ok.1
  told_true f g (inr (inl (is, may))) = absurd (cc is)
  told_true f g (inr (inr (is, more, risen))) = absurd (cc is)

  pub told_false : (faults faults_now : ℕ) → Tells (Ok false) faults faults_now → Stays p rows size line (Says Mismatch)
  told_false f g (inl is) =
      let more = size_after size user (p.fresh password salt) in
      unmatched (upgrade_not more (upgrade_answer p (text_in rows user) password salt) (nat_le more file_max) refl is)
  told_false f g (inr (inl (is, may))) = absurd (cc is)
  told_false f g (inr (inr (is, more, risen))) = absurd (cc is)

  -- or the disk failed, where it was to be changed
  pub told_err : (e : StoreError T V) (faults faults_now : ℕ) → Tells (Err e) faults faults_now
      → Refuses p rows size line e ⊎ ((e ≡ DiskFault) × (HasRisen faults faults_now × Changes p rows size line (Says Upgraded) (user, Some (p.fresh password salt))))
  told_err e f g (inl is) = inl (upgrade_err (upgrade_answer p (text_in rows user) password salt) refl e is)
  told_err e f g (inr (inl (is, may))) =
      let same : e ≡ Table refused.OutOfMemory = cc is in
      inl (subst (λ (x : StoreError T V). Refuses p rows size line x) (sym same) (wants may))
  told_err e f g (inr (inr (is, done, risen))) =
      let ok = upgrade_ok (size_after size user (p.fresh password salt)) (upgrade_answer p (text_in rows user) password salt) (sym done) in
      inr (cc is, (risen, matched ok.0 ok.1))
