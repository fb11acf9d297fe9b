-- One more call joins those that a file in memory has had.
use Rattle.std.proofs.Common.{◌≡◌, ◌⊎◌, inl, inr, ⊎_elim, ℕ, zero, suc, ◌≤◌, Bool, true, false, List, [], ◌∷◌, ◌++◌, length, Vec, sym, subst, arith, length-append}
use Rattle.std.specs.declared.alloc.Global.{Global}
use Rattle.line_log.specs.Device.{Cut, Elapses, Follows, Torn}
use Rattle.line_log.proofs.DoneCalls.{cut_unchanged, torn_same}
use Rattle.line_log.specs.Memory.{After, MayHold, Outcome, Since}
use Rattle.line_log.specs.declared.memory.Call.{Call}
use Rattle.line_log.specs.declared.memory.Call.TheVariants.{Write, CutTo, Sync, Replace}

-- what a crash may leave after one more
pub after_push : (left : List ℕ → Type 0) (calls : List Call) (call : Call) (c : List ℕ) → After left (calls ++ call ∷ []) c → Outcome (After left calls) call c
after_push left [] call c now = now
after_push left (d ∷ calls) call c now = after_push (Outcome left d) calls call c now

since_push : (left : List ℕ → Type 0) (calls : List Call) (call : Call) (t : ℕ) (c : List ℕ) → t ≤ length calls → Since left (calls ++ call ∷ []) t c → Since left calls t c ⊎ After left (calls ++ call ∷ []) c
since_push left [] call zero c le since = since
since_push left [] call (suc t) c le since = absurd (omega arith)
since_push left (d ∷ calls) call zero c le (inl now) = inl (inl now)
since_push left (d ∷ calls) call zero c le (inr later) = ⊎_elim (λ was. inl (inr was)) (λ new. inr new) (since_push (Outcome left d) calls call zero c (omega arith) later)
since_push left (d ∷ calls) call (suc t) c le since = since_push (Outcome left d) calls call t c (omega arith) since

push_since : (left : List ℕ → Type 0) (calls : List Call) (call : Call) (t : ℕ) (c : List ℕ) → t ≤ length calls → Since left calls t c → Since left (calls ++ call ∷ []) t c
push_since left [] call zero c le since = inl since
push_since left [] call (suc t) c le since = absurd (omega arith)
push_since left (d ∷ calls) call zero c le (inl now) = inl now
push_since left (d ∷ calls) call zero c le (inr later) = inr (push_since (Outcome left d) calls call zero c (omega arith) later)
push_since left (d ∷ calls) call (suc t) c le since = push_since (Outcome left d) calls call t c (omega arith) since

pub elapses_same : (left : List ℕ → Type 0) (calls : List Call) → Elapses (length calls) (length calls) (Since left calls) (Since left calls) (After left calls)
elapses_same left calls = record { later = omega arith; nothing_else = λ t c le since. inl since; keeps = λ t c le since. since }

pub elapses_still : (left : List ℕ → Type 0) (calls later : List Call) → later ≡ calls → Elapses (length calls) (length later) (Since left calls) (Since left later) (After left later)
elapses_still left calls later same = subst (λ (l : List Call). Elapses (length calls) (length l) (Since left calls) (Since left l) (After left l)) (sym same) (elapses_same left calls)

pub elapses_push : (left : List ℕ → Type 0) (calls later : List Call) (call : Call) → later ≡ calls ++ call ∷ []
    → Elapses (length calls) (length later) (Since left calls) (Since left later) (After left later)
elapses_push left calls later call same = subst (λ (l : List Call). Elapses (length calls) (length l) (Since left calls) (Since left l) (After left l)) (sym same) (record {
  later = omega (arith, length-append calls (call ∷ []));
  nothing_else = λ t c le since. since_push left calls call t c le since;
  keeps = λ t c le since. push_since left calls call t c le since;
})

-- what may be left after each call
pub write_same : (left : List ℕ → Type 0) (at n : ℕ) → Follows (Torn at n) left left
write_same left at n = λ c now. (c, now, torn_same at n c)

pub write_still : (left : List ℕ → Type 0) (calls later : List Call) (at n : ℕ) → later ≡ calls → Follows (Torn at n) (After left calls) (After left later)
write_still left calls later at n same = subst (λ (l : List Call). Follows (Torn at n) (After left calls) (After left l)) (sym same) (write_same (After left calls) at n)

pub write_follows : (left : List ℕ → Type 0) (calls later : List Call) (at : ℕ) (copy : Vec ℕ Global) (bytes : List ℕ) → copy.items ≡ bytes → later ≡ calls ++ Write at copy ∷ []
    → Follows (Torn at (length bytes)) (After left calls) (After left later)
write_follows left calls later at copy bytes is same = λ c now.
    let from = after_push left calls (Write at copy) c (subst (λ (l : List Call). After left l c) same now) in
    (from.0, from.1, subst (λ (b : List ℕ). Torn at (length b) from.0 c) is from.2)

pub cut_same : (left : List ℕ → Type 0) (len : ℕ) → Follows (Cut len) left left
cut_same left len = λ c now. (c, now, cut_unchanged len c)

pub cut_still : (left : List ℕ → Type 0) (calls later : List Call) (len : ℕ) → later ≡ calls → Follows (Cut len) (After left calls) (After left later)
cut_still left calls later len same = subst (λ (l : List Call). Follows (Cut len) (After left calls) (After left l)) (sym same) (cut_same (After left calls) len)

pub cut_follows : (left : List ℕ → Type 0) (calls later : List Call) (len : ℕ) → later ≡ calls ++ CutTo len ∷ [] → Follows (Cut len) (After left calls) (After left later)
cut_follows left calls later len same = λ c now. after_push left calls (CutTo len) c (subst (λ (l : List Call). After left l c) same now)

pub still : (left : List ℕ → Type 0) (calls later : List Call) → later ≡ calls → (c : List ℕ) → After left later c → After left calls c
still left calls later same c now = subst (λ (l : List Call). After left l c) same now

pub sync_keeps : (left : List ℕ → Type 0) (calls later : List Call) (copy : Vec ℕ Global) → later ≡ calls ++ Sync copy ∷ [] → (c : List ℕ) → After left later c → After left calls c × (c ≡ copy.items)
sync_keeps left calls later copy same c now = after_push left calls (Sync copy) c (subst (λ (l : List Call). After left l c) same now)

pub replace_leaves : (left : List ℕ → Type 0) (calls later : List Call) (copy : Vec ℕ Global) (is_synced : Bool) (bytes : List ℕ) → copy.items ≡ bytes → later ≡ calls ++ Replace copy is_synced ∷ []
    → (c : List ℕ) → After left later c → After left calls c ⊎ MayHold is_synced bytes c
replace_leaves left calls later copy is_synced bytes is same c now =
    subst (λ (b : List ℕ). After left calls c ⊎ MayHold is_synced b c) is (after_push left calls (Replace copy is_synced) c (subst (λ (l : List Call). After left l c) same now))

-- ---- what a read gives stays among what may be left

push_after : (left : List ℕ → Type 0) (calls : List Call) (call : Call) (c : List ℕ) → Outcome (After left calls) call c → After left (calls ++ call ∷ []) c
push_after left [] call c now = now
push_after left (d ∷ calls) call c now = push_after (Outcome left d) calls call c now

pub leaves_push : (left : List ℕ → Type 0) (calls later : List Call) (call : Call) (c : List ℕ) → later ≡ calls ++ call ∷ [] → Outcome (After left calls) call c → After left later c
leaves_push left calls later call c same now = subst (λ (l : List Call). After left l c) (sym same) (push_after left calls call c now)

pub hold_same : (is_synced : Bool) (bytes c : List ℕ) → c ≡ bytes → MayHold is_synced bytes c
hold_same true bytes c is = is
hold_same false bytes c is = tt
