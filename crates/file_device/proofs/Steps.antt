-- What one call more changes.
use Rattle.std.specs.Prelude.{◌==◌, ◌&&◌, nat_le}
use Rattle.std.proofs.Common.{◌≡◌, ◌⊎◌, ℕ, ◌+◌, ◌≤◌, Bool, true, false, cond, List, [], ◌∷◌, ◌++◌, length, take, drop}
use Rattle.std.proofs.lemmas.Bool.{false≢true, le-leb, ne_eqb}
use Rattle.std.proofs.lemmas.List.{append-nil, drop_all, length-drop, take-append-drop}
use Rattle.std.proofs.Common.{is_ok, refl, sym, ap, ◌∙◌, arith, inl, inr, subst}
use Rattle.std.specs.Prelude.{Result, Ok, Err, OnErr, OnOk}
use Rattle.line_io.specs.declared.device.Failed.{Failed}
use Rattle.line_log.specs.Device.{Cut, Elapses, Follows, Holds, Only, Torn}
use Rattle.pieces.specs.FaultCounts.{HasRisen}
use Rattle.file_device.specs.Calls.{Call, IsTold, LeftAfter, LeftSince, MayHold, MayLeave, call_by, changed, faults, has_failed, is_renewed, renews, replacement, seen, tail_at}
use Rattle.file_device.specs.Calls.{Opened, Wrote, CutTo, Synced, Began, Added, SyncedNew, Replaced}

-- ---- answers

pub on_ok : {P : Type 0} (r : Result (Unit {0}) Failed) (done : Bool) → is_ok r ≡ done → (done ≡ true → P) → OnOk r P
on_ok (Ok x) done is f = f (sym is)
on_ok (Err e) done is f = tt

on_err : {P : Type 0} (r : Result (Unit {0}) Failed) (done : Bool) → is_ok r ≡ done → (done ≡ false → P) → OnErr r P
on_err (Ok x) done is f = tt
on_err (Err e) done is f = f (sym is)

pub of_ok : {E P : Type 0} (r : Result (Unit {0}) E) → OnOk r P → is_ok r ≡ true → P
of_ok (Ok x) p is = p
of_ok (Err e) p is = absurd (false≢true is)

-- ---- any call

more : (call : Call) (calls : List Call)
    → Elapses (length calls) (length (call ∷ calls)) (LeftSince calls) (LeftSince (call ∷ calls)) (MayLeave (call ∷ calls))
unfolding LeftSince
more call calls =
    record {
      later = omega arith;
      nothing_else = λ t c le since. elim since [
        | inl earlier ↦ inl earlier.1
        | inr now ↦ inr now.1
      ];
      keeps = λ t c le since. inl (le, since);
    }

module _ (new calls : List Call) (call : Call) (is : new ≡ call ∷ calls) where
  pub time : Elapses (length calls) (length new) (LeftSince calls) (LeftSince new) (MayLeave new)
  time =
      subst (λ (z : List Call). Elapses (length calls) (length z) (LeftSince calls) (LeftSince z) (MayLeave z)) (sym is)
      (more call calls)

  faults_are : faults new ≡ faults calls + has_failed call
  unfolding faults
  faults_are = ap faults is

  pub count : faults calls ≤ faults new
  count = let all = faults_are in omega (arith, all)

  pub cause : (r : Result (Unit {0}) Failed) (done : Bool) → is_ok r ≡ done → has_failed call ≡ cond done 0 1
      → OnErr r (HasRisen (faults calls) (faults new))
  cause r done ok failed =
      let all = faults_are in
      on_err r done ok (λ not_done. let one = failed ∙ ap {B = ℕ} (λ (b : Bool). cond b 0 1) not_done in inl (omega (arith, all, one)))

  left_of : (c : List ℕ) → MayLeave new c → LeftAfter (IsTold calls) (seen calls) (MayLeave calls) (MayHold calls) call c
  unfolding MayLeave
  left_of c left = subst (λ (z : List Call). MayLeave z c) is left

  seen_are : seen new ≡ changed (seen calls) (replacement calls) call
  unfolding seen
  seen_are = ap seen is

-- ---- each call

module _ (new calls : List Call) (done : Bool) (at : ℕ) (bytes : List ℕ) where
  pub written : new ≡ Wrote done at bytes ∷ calls → done ≡ true → Holds (seen calls) at bytes (seen new)
  written is e =
      seen_are new calls (Wrote done at bytes) is
      ∙ ap (λ (b : Bool). changed (seen calls) (replacement calls) (Wrote b at bytes)) e

  pub torn : new ≡ Wrote done at bytes ∷ calls → Follows (Torn at (length bytes)) (MayLeave calls) (MayLeave new)
  torn is = λ c left. left_of new calls (Wrote done at bytes) is c left

  pub added_to : new ≡ Added done bytes ∷ calls → done ≡ true → replacement new ≡ replacement calls ++ bytes
  unfolding replacement
  added_to is e =
      ap replacement is ∙ ap (λ (b : Bool). replacement (Added b bytes ∷ calls)) e

module _ (new calls : List Call) (done : Bool) (at : ℕ) where
  pub cut_short : new ≡ CutTo done at ∷ calls → done ≡ true → seen new ≡ take at (seen calls)
  cut_short is e =
      seen_are new calls (CutTo done at) is ∙ ap (λ (b : Bool). changed (seen calls) (replacement calls) (CutTo b at)) e

  pub cut_in_part : new ≡ CutTo done at ∷ calls → Follows (Cut at) (MayLeave calls) (MayLeave new)
  cut_in_part is = λ c left. left_of new calls (CutTo done at) is c left

module _ (new calls : List Call) (done : Bool) where
  pub same_when_synced : new ≡ Synced done ∷ calls → seen new ≡ seen calls
  same_when_synced is = seen_are new calls (Synced done) is

  pub synced : new ≡ Synced done ∷ calls → IsTold calls → done ≡ true → Only (seen calls) (MayLeave new)
  synced is told e = λ c left.
      (subst (λ (b : Bool). LeftAfter (IsTold calls) (seen calls) (MayLeave calls) (MayHold calls) (Synced b) c) e
      (left_of new calls (Synced done) is c left)).1 told

  pub no_more_when_synced : new ≡ Synced done ∷ calls → (c : List ℕ) → MayLeave new c → MayLeave calls c
  no_more_when_synced is c left = by_done done (left_of new calls (Synced done) is c left)
    where
      by_done : (b : Bool) → LeftAfter (IsTold calls) (seen calls) (MayLeave calls) (MayHold calls) (Synced b) c → MayLeave calls c
      by_done true l = l.0
      by_done false l = l

  pub begun : new ≡ Began done ∷ calls → done ≡ true → replacement new ≡ []
  unfolding replacement
  begun is e = ap replacement is ∙ ap (λ (b : Bool). replacement (Began b ∷ calls)) e

  pub held : new ≡ SyncedNew done ∷ calls → faults calls ≡ 0 → done ≡ true → Only (replacement calls) (MayHold new)
  unfolding MayHold
  held is none e = λ c left.
      subst (λ (b : Bool). MayHold (SyncedNew b ∷ calls) c) e (subst (λ (z : List Call). MayHold z c) is left) none

  pub same_replacement : new ≡ SyncedNew done ∷ calls → replacement new ≡ replacement calls
  unfolding replacement
  same_replacement is = ap replacement is

  pub replaced : new ≡ Replaced done ∷ calls → done ≡ true → seen new ≡ replacement calls
  replaced is e =
      seen_are new calls (Replaced done) is ∙ ap (λ (b : Bool). changed (seen calls) (replacement calls) (Replaced b)) e

  pub old_or_new : new ≡ Replaced done ∷ calls → (c : List ℕ) → MayLeave new c → MayLeave calls c ⊎ MayHold calls c
  old_or_new is c left = left_of new calls (Replaced done) is c left

-- calls on the replacement leave the file as it was
module _ (new calls : List Call) where
  pub seen_as_before : (call : Call) → new ≡ call ∷ calls → changed (seen calls) (replacement calls) call ≡ seen calls
      → seen new ≡ seen calls
  seen_as_before call is same = seen_are new calls call is ∙ same

  pub left_as_before : (call : Call) → new ≡ call ∷ calls
      → ((c : List ℕ) → LeftAfter (IsTold calls) (seen calls) (MayLeave calls) (MayHold calls) call c → MayLeave calls c)
      → (c : List ℕ) → MayLeave new c → MayLeave calls c
  left_as_before call is same c left = same c (left_of new calls call is c left)

-- ---- what a sync tells, after one call more

not_first : (kind : ℕ) → 1 ≤ kind → (kind == 0) ≡ false
not_first kind le = ne_eqb kind 0 (λ e. omega (arith, le, e))

renewed_by : (len : ℕ) (a b c d e f : Bool) (done : Bool) (at : ℕ) (bytes : List ℕ)
    → renews len true
    (cond a (Wrote done at bytes)
    (cond b (CutTo done at)
    (cond c (Synced done)
    (cond d (Began done)
    (cond e (Added done bytes)
    (cond f (SyncedNew done) (Replaced done))))))) ≡ true
renewed_by len true b c d e f true at bytes = refl
renewed_by len true b c d e f false at bytes = refl
renewed_by len false true c d e f done at bytes = refl
renewed_by len false false true d e f done at bytes = refl
renewed_by len false false false true e f done at bytes = refl
renewed_by len false false false false true f done at bytes = refl
renewed_by len false false false false false true done at bytes = refl
renewed_by len false false false false false false true at bytes = refl
renewed_by len false false false false false false false at bytes = refl

healthy_by : (o a b c d e f : Bool) (at : ℕ) (bytes : List ℕ)
    → has_failed
    (cond o (Opened bytes)
    (cond a (Wrote true at bytes)
    (cond b (CutTo true at)
    (cond c (Synced true)
    (cond d (Began true)
    (cond e (Added true bytes)
    (cond f (SyncedNew true) (Replaced true)))))))) ≡ 0
healthy_by true a b c d e f at bytes = refl
healthy_by false true b c d e f at bytes = refl
healthy_by false false true c d e f at bytes = refl
healthy_by false false false true d e f at bytes = refl
healthy_by false false false false true e f at bytes = refl
healthy_by false false false false false true f at bytes = refl
healthy_by false false false false false false true at bytes = refl
healthy_by false false false false false false false at bytes = refl

module _ (new calls : List Call) (kind at : ℕ) (bytes : List ℕ) where
  pub still_renewed : (done : Bool) → new ≡ call_by kind done at bytes ∷ calls → 1 ≤ kind → is_renewed calls ≡ true → is_renewed new ≡ true
  unfolding is_renewed
  still_renewed done is le before =
      ap is_renewed is
      ∙ ap (λ (z : Bool). renews (length (seen calls)) z (call_by kind done at bytes)) before
      ∙ ap (λ (z : Bool). renews (length (seen calls)) true (cond z (Opened bytes) (call_behind done))) (not_first kind le)
      ∙ renewed_by (length (seen calls)) (kind == 1) (kind == 2) (kind == 3) (kind == 4) (kind == 5) (kind == 6) done at bytes
    where
      call_behind : Bool → Call
      call_behind done =
          cond (kind == 1) (Wrote done at bytes)
          (cond (kind == 2) (CutTo done at)
          (cond (kind == 3) (Synced done)
          (cond (kind == 4) (Began done)
          (cond (kind == 5) (Added done bytes)
          (cond (kind == 6) (SyncedNew done) (Replaced done))))))

  pub still_healthy : new ≡ call_by kind true at bytes ∷ calls → faults calls ≡ 0 → faults new ≡ 0
  still_healthy is before =
      faults_are new calls (call_by kind true at bytes) is
      ∙ ap (λ (z : ℕ). z + has_failed (call_by kind true at bytes)) before
      ∙ ap (λ (z : ℕ). 0 + z) (healthy_by (kind == 0) (kind == 1) (kind == 2) (kind == 3) (kind == 4) (kind == 5) (kind == 6) at bytes)

-- no calls
pub none_seen : seen [] ≡ []
unfolding seen
none_seen = refl

pub none_failed : faults [] ≡ 0
unfolding faults
none_failed = refl

pub none_stale : is_renewed [] ≡ true
unfolding is_renewed
none_stale = refl

-- a file that was opened, and whose last bytes were written again
module _ (calls : List Call) (bytes : List ℕ) (at : ℕ) (is : calls ≡ Wrote true at (drop at bytes) ∷ Opened bytes ∷ []) where
  pub opened_seen : at ≤ length bytes → seen calls ≡ bytes
  unfolding seen
  opened_seen le =
      let len = length-drop at bytes in
      ap seen is ∙ ap (λ (z : List ℕ). take at bytes ++ drop at bytes ++ z) (drop_all (at + length (drop at bytes)) bytes (omega (arith, len, le)))
      ∙ append-nil (take at bytes ++ drop at bytes) ∙ take-append-drop at bytes

  pub opened_healthy : faults calls ≡ 0
  unfolding faults
  opened_healthy = ap faults is

  pub opened_renewed : at ≡ tail_at (length bytes) → is_renewed calls ≡ true
  unfolding is_renewed seen
  opened_renewed is_at =
      let len = length-drop at bytes in
      ap is_renewed is
      ∙ ap (λ (z : Bool). z && nat_le (length bytes) (at + length (drop at bytes))) (le-leb at (tail_at (length bytes)) (omega (arith, is_at)))
      ∙ le-leb (length bytes) (at + length (drop at bytes)) (omega (arith, len))
