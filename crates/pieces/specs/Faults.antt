-- Faults, one after another: the first one answers.
use Rattle.std.specs.Prelude.{Bool, true, false, List, [], ◌∷◌, Option, Some, None, Result, Ok, Err}

-- a fault exactly where the fact does not hold
abbrev pub unless : {E : Type 0} → Bool → E → Option E
unless true e = None
unless false e = Some e

-- the first of two faults
abbrev pub or_else : {E : Type 0} → Option E → Option E → Option E
or_else (Some e) other = Some e
or_else None other = other

-- the first fault of a list
abbrev pub first_fault : {E : Type 0} → List (Option E) → Option E
first_fault [] = None
first_fault (fault ∷ faults) = or_else fault (first_fault faults)

-- a value, unless there is a fault
abbrev pub value_or_fault : {A : Type 0} → {E : Type 0} → A → Option E → Result A E
value_or_fault a (Some e) = Err e
value_or_fault a None = Ok a
