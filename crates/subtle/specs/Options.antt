-- What a `CtOption` shows, and what its calls with a closure give.
-- Source: the documentation of `CtOption` in `subtle` 2.6.1.
use Rattle.std.specs.Prelude.{◌≡◌, Option, Some, None, if◌then◌else◌, MatchOption, IsSomeAnd}
use Rattle.subtle.specs.declared.option.CtOption.{CtOption}

-- the value where the choice is 1, and none where it is 0
abbrev pub option_of : {T : Type 0} → CtOption T → Option T
option_of o = if o.present then Some o.value else None

-- `map`: the result is none where o is, and else an answer for its value
abbrev pub MapsTo : {T U : Type 0} → Option T → (T → U → Type 0) → Option U → Type 0
MapsTo o Answers result = MatchOption o (result ≡ None) (λ v. IsSomeAnd result (Answers v))

-- `and_then`: the result is none where o is, and else the option of an answer for its value
abbrev pub ContinuesTo : {T U : Type 0} → Option T → (T → CtOption U → Type 0) → Option U → Type 0
ContinuesTo {T} {U} o Answers result =
    MatchOption o (result ≡ None) (λ v. (a : CtOption U) × Answers v a × (result ≡ option_of a))

-- `or_else`: the result is o where it has a value, and else the option of an answer
abbrev pub FallsBackTo : {T : Type 0} → Option T → (CtOption T → Type 0) → Option T → Type 0
FallsBackTo {T} o Answers result =
    MatchOption o ((a : CtOption T) × Answers a × (result ≡ option_of a)) (λ v. result ≡ Some v)

-- a call was made on such a value, and was answered
abbrev pub IsCalledOn : {T U : Type 0} → (T → Type 0) → (T → U → Type 0) → Type 0
IsCalledOn {T} {U} IsSuch Answers = (x : T) × (y : U) × IsSuch x × Answers x y
