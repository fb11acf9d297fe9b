-- What the calls of an option give, by whether its value is there.
use Rattle.std.specs.Prelude.{◌≡◌, Bool, true, false, Option, Some, None, cond}
use Rattle.std.proofs.Common.{refl}
use Rattle.subtle.specs.declared.option.CtOption.{CtOption}
use Rattle.subtle.specs.Options.{option_of, ContinuesTo, FallsBackTo}

pub continues : {T U : Type 0} (b : Bool) (v : T) (Answers : T → CtOption U → Type 0) (r : Option U)
    → (b ≡ false → r ≡ None) → (b ≡ true → (a : CtOption U) × Answers v a × (r ≡ option_of a))
    → ContinuesTo (cond b (Some v) None) Answers r
continues true v _ _ p q = q refl
continues false v _ _ p q = p refl

pub falls_back : {T : Type 0} (b : Bool) (v : T) {Answers : CtOption T → Type 0} {r : Option T}
    → (b ≡ false → (a : CtOption T) × Answers a × (r ≡ option_of a)) → (b ≡ true → r ≡ Some v)
    → FallsBackTo (cond b (Some v) None) Answers r
falls_back true v p q = q refl
falls_back false v p q = p refl
