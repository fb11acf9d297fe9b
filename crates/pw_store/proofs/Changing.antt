-- What a change leaves, and what a refusal does.
use Rattle.std.proofs.Common.{Bor, ◌≡◌, ◌⊎◌, inl, inr, ℕ, ◌+◌, Bool, true, false, cond, List, [], length, refl, sym, ap, ◌∙◌, subst, arith, Option, Some, None, Result, Ok, Err}
use Rattle.std.specs.Prelude.{is_none, is_ok, nat_le}
use Rattle.std.specs.Option.{option_copied}
use Rattle.std.specs.List.{list_any}
use Rattle.std.specs.Str.{IsUtf8}
use Rattle.pieces.specs.Characters.{is_tab}
use Rattle.pieces.proofs.FaultLaws.{err_ok}
use Rattle.pieces.specs.Faults.{value_or_fault}
use Rattle.line_log.specs.Log.{file_max}
use Rattle.line_log.specs.declared.log.LineLog.{LineLog}
use Rattle.pw_file.specs.Answers.{IsAnswer, exchange_answer, remove_answer, set_answer, set_fault}
use Rattle.pw_file.specs.Calls.{with_text, without}
use Rattle.pw_file.specs.History.{History, IsContentOf, Rows, text_in}
use Rattle.pw_file.specs.declared.error.FileError.{FileError}
use Rattle.pw_file.specs.declared.error.FileError.TheVariants as refused
use Rattle.pw_file.proofs.Calls.{remove_content, set_content, upgrade_content}
use Rattle.pw_file.proofs.TableAnswers.{error_is_no_value}
use Rattle.pw_file.specs.Policy.{IsLawful, TextPolicy}
use Rattle.pw_store.specs.Staged.{IsStaged}
use Rattle.pw_store.specs.Stored.{after_store_remove, after_store_set, after_store_upgrade, set_by, size_after, size_changed, stored_remove, stored_set}
use Rattle.pw_store.specs.declared.error.StoreError.{StoreError}
use Rattle.pw_store.specs.declared.error.StoreError.TheVariants.{Table, DiskFault, FileFull}

-- ---- an exchange

-- a value for which there is no fault
found : {A E : Type 0} (a r : A) (fault : Option E) → Ok r ≡ value_or_fault a fault → (r ≡ a) × (fault ≡ None)
found a r None is = (cc is, refl)
found a r (Some f) is = absurd (cc is)

pub exchanged : {T V : Type 0} (p : TextPolicy T V) (user text : List ℕ) (had : Option (List ℕ)) (n : ℕ) (may : Bool) (r : List ℕ × Option (List ℕ))
    → IsAnswer (exchange_answer p user had n text) may (Ok r)
    → (r ≡ (user, had)) × (set_answer p had n text ≡ Ok tt)
exchanged p user text had n may r (inl is) =
    let f = found (user, had) r (set_fault p had n text) is in
    (f.0, ap (λ (o : Option _). value_or_fault tt o) f.1)
exchanged p user text had n may r (inr (is, may_is)) = absurd (cc is)

-- what a fault is told by
same_fault : {A E : Type 0} (a : A) (fault : Option E) (e : E) → Err e ≡ value_or_fault a fault → value_or_fault {A = Unit {0}} tt fault ≡ Err e
same_fault a None e is = absurd (cc is)
same_fault {A} {E} a (Some f) e is = by_same (cc is)
  where
    err : E → Result (Unit {0}) E
    err x = Err x

    by_same : e ≡ f → err f ≡ err e
    by_same same = ap err (sym same)

abbrev refusal_of : {T V : Type 0} → StoreError T V → Result (Unit {0}) (StoreError T V)
refusal_of e = Err e

pub refused_answer : {T V : Type 0} (p : TextPolicy T V) (takes : Bool) (rows : Rows) (size : ℕ) (user text : List ℕ) (e : FileError T V) → takes ≡ true
    → IsAnswer (exchange_answer p user (text_in rows user) (length rows) text) (is_ok (set_answer p (text_in rows user) (length rows) text)) (Err e)
    → (refusal_of (Table e) ≡ stored_set p takes rows size user text)
    ⊎ ((refusal_of (Table e) ≡ refusal_of (Table refused.OutOfMemory)) × (is_ok (set_answer p (text_in rows user) (length rows) text) ≡ true))
refused_answer p takes rows size user text e is_open (inl is) =
    let fault : set_answer p (text_in rows user) (length rows) text ≡ Err e = same_fault (user, text_in rows user) (set_fault p (text_in rows user) (length rows) text) e is in
    inl (sym (ap (λ b. cond b (set_by (size_after size user text) (set_answer p (text_in rows user) (length rows) text)) (Err DiskFault)) is_open
    ∙ ap (set_by (size_after size user text)) fault))
refused_answer p takes rows size user text e is_open (inr (is, may)) = inr (by_same (cc is), may)
  where
    by_same : e ≡ refused.OutOfMemory → refusal_of (Table e) ≡ refusal_of (Table refused.OutOfMemory)
    by_same same = ap (λ (x : FileError _ _). refusal_of (Table x)) same

-- ---- and back

pub back_again : (rows table now : Rows) (user text : List ℕ) (r : List ℕ × Option (List ℕ)) → r ≡ (user, text_in rows user) → table ≡ with_text rows user text
    → ((rs : Rows) (new : List ℕ) → table ≡ with_text rs r.0 new → r.1 ≡ text_in rs r.0 → now ≡ rs) → now ≡ rows
back_again rows table now user text r is put back =
    let name : r.0 ≡ user = ap (λ (p : List ℕ × Option (List ℕ)). p.0) is in
    let was : r.1 ≡ text_in rows user = ap (λ (p : List ℕ × Option (List ℕ)). p.1) is in
    back rows text (put ∙ ap (λ (u : List ℕ). with_text rows u text) (sym name)) (was ∙ ap (λ (u : List ℕ). text_in rows u) (sym name))

pub staged_as : {D T V : Type 0} (p : TextPolicy T V) (seen : D → List ℕ) (may_leave : D → List ℕ → Type 0) (log : LineLog D) (lines lines_now : List ℕ)
    (undo undo_now : List (List ℕ × Option (List ℕ))) (rows rows_now : Rows) → lines_now ≡ lines → undo_now ≡ undo → rows_now ≡ rows
    → IsStaged p seen may_leave log lines undo rows → IsStaged p seen may_leave log lines_now undo_now rows_now
staged_as p seen may_leave log lines lines_now undo undo_now rows rows_now l u r s =
    subst (λ (t : List ℕ). IsStaged p seen may_leave log t undo_now rows_now) (sym l)
    (subst (λ (us : List (List ℕ × Option (List ℕ))). IsStaged p seen may_leave log lines us rows_now) (sym u)
    (subst (λ (rs : Rows). IsStaged p seen may_leave log lines undo rs) (sym r) s))

-- ---- histories

pub refused_content : {T V : Type 0} (p : TextPolicy T V) (law : IsLawful p) (h : History) (rows : Rows) (user text : List ℕ) (e : StoreError T V) → IsUtf8 text → IsContentOf p h rows → IsContentOf p (after_store_set h user text (Err e)) rows
refused_content p law h rows user text (Table e) utf8 held = set_content p law h rows user held text (Err e) (λ is. absurd (err_ok e tt is)) utf8
refused_content p law h rows user text DiskFault utf8 held = held
refused_content p law h rows user text FileFull utf8 held = held

-- what was staged was to be done
pub staged_done : {T V : Type 0} (p : TextPolicy T V) (takes : Bool) (rows : Rows) (size : ℕ) (lines : List ℕ) (user text : List ℕ) (may : Type 0) → lines ≡ []
    → (Ok tt ≡ stored_set p takes rows (size + length lines) user text) ⊎ ((Ok tt ≡ refusal_of {T = T} {V = V} (Table refused.OutOfMemory)) × may)
    → stored_set p takes rows size user text ≡ Ok tt
staged_done p takes rows size lines user text may none (inl is) =
    let zero : length lines ≡ 0 = ap length none in
    let same : size ≡ size + length lines = omega (arith, zero) in
    ap (λ (n : ℕ). stored_set p takes rows n user text) same ∙ sym is
staged_done p takes rows size lines user text may none (inr (bad, other)) = absurd (cc bad)

pub refused_upgrade : {T V : Type 0} (p : TextPolicy T V) (law : IsLawful p) (h : History) (rows : Rows) (user password salt : List ℕ) (e : StoreError T V) → IsUtf8 salt → IsUtf8 password → IsContentOf p h rows
    → IsContentOf p (after_store_upgrade h user password salt (Err e)) rows
refused_upgrade p law h rows user password salt (Table e) salt_utf8 utf8 held =
    upgrade_content p law h rows user held password salt (Err e) salt_utf8 utf8 (λ is. absurd (error_is_no_value e true is))
refused_upgrade p law h rows user password salt DiskFault salt_utf8 utf8 held = held
refused_upgrade p law h rows user password salt FileFull salt_utf8 utf8 held = held

-- ---- changes

pub set_done : {T V : Type 0} (p : TextPolicy T V) (law : IsLawful p) (h : History) (rows now : Rows) (user text : List ℕ) → now ≡ with_text rows user text
    → p.is_name user ≡ true → IsUtf8 text → IsContentOf p h rows → IsContentOf p (after_store_set {T = T} {V = V} h user text (Ok tt)) now
set_done {T} {V} p law h rows now user text is name utf8 held =
    subst (λ (r : Rows). IsContentOf p (after_store_set {T = T} {V = V} h user text (Ok tt)) r) (sym is)
    (set_content p law h rows user held text (Ok tt) (λ done. name) utf8)

pub upgrade_done : {T V : Type 0} (p : TextPolicy T V) (law : IsLawful p) (h : History) (rows now : Rows) (user password salt : List ℕ)
    → now ≡ with_text rows user (p.fresh password salt) → p.is_name user ≡ true → list_any is_tab salt ≡ false → IsUtf8 salt → IsUtf8 password
    → IsContentOf p h rows → IsContentOf p (after_store_upgrade {T = T} {V = V} h user password salt (Ok true)) now
upgrade_done {T} {V} p law h rows now user password salt is name tabless salt_utf8 utf8 held =
    subst (λ (r : Rows). IsContentOf p (after_store_upgrade {T = T} {V = V} h user password salt (Ok true)) r) (sym is)
    (upgrade_content p law h rows user held password salt (Ok true) salt_utf8 utf8 (λ done. (name, tabless)))

pub remove_done : {T V : Type 0} (p : TextPolicy T V) (law : IsLawful p) (h : History) (rows now : Rows) (user : List ℕ) → now ≡ without rows user
    → p.takes_remove ≡ true → p.is_name user ≡ true → IsContentOf p h rows → IsContentOf p (after_store_remove {T = T} {V = V} h user (Ok tt)) now
remove_done {T} {V} p law h rows now user is takes name held =
    subst (λ (r : Rows). IsContentOf p (after_store_remove {T = T} {V = V} h user (Ok tt)) r) (sym is)
    (remove_content p law h rows user held (Ok tt) takes (λ done. name))

pub refused_remove : {T V : Type 0} (p : TextPolicy T V) (law : IsLawful p) (h : History) (rows : Rows) (user : List ℕ) (e : StoreError T V) → p.takes_remove ≡ true
    → IsContentOf p h rows → IsContentOf p (after_store_remove h user (Err e)) rows
refused_remove p law h rows user (Table e) takes held = remove_content p law h rows user held (Err e) takes (λ is. absurd (err_ok e tt is))
refused_remove p law h rows user DiskFault takes held = held
refused_remove p law h rows user FileFull takes held = held

-- a user that is there, or isn't
pub is_there : {T V : Type 0} (p : TextPolicy T V) (text : Option (Bor (List ℕ))) → is_none text ≡ false → remove_answer p (option_copied text) ≡ Ok tt
is_there p None never = absurd (cc never)
is_there p (Some text) some = refl

pub is_away : {T V : Type 0} (p : TextPolicy T V) (text : Option (Bor (List ℕ))) → is_none text ≡ true → remove_answer p (option_copied text) ≡ Err refused.NoUser
is_away p None none = refl
is_away p (Some text) never = absurd (cc never)

-- the answer where no write has failed
pub removal_answer : {T V : Type 0} (p : TextPolicy T V) (takes : Bool) (rows : Rows) (size : ℕ) (user : List ℕ) (answer : Result (Unit {0}) (FileError T V)) → takes ≡ true
    → remove_answer p (text_in rows user) ≡ answer → stored_remove p takes rows size user ≡ set_by (size_changed size user None) answer
removal_answer p takes rows size user answer opened is =
    ap (λ (b : Bool). cond b (set_by (size_changed size user None) (remove_answer p (text_in rows user))) (Err DiskFault)) opened
    ∙ ap (set_by (size_changed size user None)) is

-- and where the user is there, by the room of the file
pub removal_room : {T V : Type 0} (p : TextPolicy T V) (takes : Bool) (rows : Rows) (size : ℕ) (user : List ℕ) → takes ≡ true
    → remove_answer p (text_in rows user) ≡ Ok tt → (fits : Bool) → nat_le (size_changed size user None) file_max ≡ fits
    → stored_remove p takes rows size user ≡ cond fits (Ok tt) (Err FileFull)
removal_room p takes rows size user opened is fits room =
    removal_answer p takes rows size user (Ok tt) opened is ∙ ap (λ (b : Bool). cond b (Ok tt) (Err FileFull)) room
