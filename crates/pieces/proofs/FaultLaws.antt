-- Where no fault is found, each test holds; and what holds of each fault holds of the one that is found.
use Rattle.std.proofs.Common.{◌≡◌, Bool, true, false, List, ◌∷◌, refl, subst}
use Rattle.std.specs.Prelude.{IfSome, Option, Some, None, Result, Ok, Err, if◌then◌else◌}
use Rattle.pieces.specs.Faults.{first_fault, or_else, unless, value_or_fault}

pub some_none : {A : Type 0} (a : A) → Some a ≡ None → ⊥
some_none a h = cc

-- where neither of two faults is found, each is absent
pub or_none : {E : Type 0} (a b : Option E) → or_else a b ≡ None → (a ≡ None) × (b ≡ None)
or_none None b h = (refl, h)
or_none (Some e) b h = absurd (some_none e h)

-- where no fault of a list is found, the first is absent, and none of the others is found
pub first_none : {E : Type 0} (fault : Option E) (faults : List (Option E)) → first_fault (fault ∷ faults) ≡ None
    → (fault ≡ None) × (first_fault faults ≡ None)
first_none fault faults h = or_none fault (first_fault faults) h

pub unless_none : {E : Type 0} (test : Bool) (e : E) → unless test e ≡ None → test ≡ true
unless_none true e h = refl
unless_none false e h = absurd (some_none e h)

-- ---- a value, or its fault

pub err_ok : {A : Type 0} {E : Type 0} (e : E) (a : A) → Err e ≡ Ok a → ⊥
err_ok e a h = cc

-- where a value is answered, there is no fault
pub value_found : {A : Type 0} {E : Type 0} (a b : A) (fault : Option E) → value_or_fault a fault ≡ Ok b
    → (fault ≡ None) × (a ≡ b)
value_found a b None h = (refl, cc)
value_found a b (Some e) h = absurd (err_ok e b h)

-- where a value is answered after a test, the test holds
pub where_so : {A : Type 0} {E : Type 0} (t : Bool) (e : E) (x : Result A E) (a : A) → (if t then x else Err e) ≡ Ok a
    → (t ≡ true) × (x ≡ Ok a)
where_so true e x a h = (refl, h)
where_so false e x a h = absurd (err_ok e a h)

-- ---- what holds of each fault

pub each_unless : {E : Type 0} (P : E → Type 0) (test : Bool) (e : E) → P e → IfSome (unless test e) P
each_unless P true e h = tt
each_unless P false e h = h

pub each_or : {E : Type 0} (P : E → Type 0) (a b : Option E) → IfSome a P → IfSome b P → IfSome (or_else a b) P
each_or P None b ha hb = hb
each_or P (Some e) b ha hb = ha

pub of_found : {E : Type 0} (P : E → Type 0) (fault : Option E) (e : E) → IfSome fault P → fault ≡ Some e → P e
of_found P None e h is = absurd cc
of_found P (Some f) e h is = let same : f ≡ e = cc in subst P same h
