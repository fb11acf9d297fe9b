-- What the makers of a text of one's own answer, and the pushes.
use Rattle.std.specs.Prelude.{◌≡◌, ◌⊎◌, ℕ, List, ◌++◌, Option, Some, None, Result, Ok, Err, if◌then◌else◌}
use Rattle.mcf.specs.Grammar.{with_dollar}
use Rattle.pieces.specs.Lists.{is_empty}
use Rattle.mcf.specs.declared.error.Error.{Error}
use Rattle.mcf.specs.declared.error.Error.TheVariants.{FieldInvalid, OutOfMemory}

-- the text, unless there is a fault
abbrev pub made : Option Error → List ℕ → Result (List ℕ) Error
made (Some e) text = Err e
made None text = Ok text

-- the text is made, or its fault is answered; without a fault memory may be wanting
abbrev pub IsMade : Option Error → List ℕ → Result (List ℕ) Error → Type 0
IsMade fault text answer = (answer ≡ made fault text) ⊎ ((fault ≡ None) × (answer ≡ Err OutOfMemory))

-- the answer of a push and the text after it: the field is pushed, unless there is a fault
abbrev pub push : Option Error → List ℕ → List ℕ → Result (Unit {0}) Error × List ℕ
push (Some e) field text = (Err e, text)
push None field text = (Ok tt, text ++ with_dollar field)

-- the field is pushed, or the fault is answered and the text stays; without a fault memory may be wanting, and the
-- text stays
abbrev pub IsPush : Option Error → List ℕ → List ℕ → Result (Unit {0}) Error → List ℕ → Type 0
IsPush fault field text answer after = ((answer, after) ≡ push fault field text)
    ⊎ ((fault ≡ None) × ((answer, after) ≡ push (Some OutOfMemory) field text))

-- the fault of an encoding that is pushed: there are no bytes
abbrev pub bytes_fault : List ℕ → Option Error
bytes_fault bytes = if is_empty bytes then Some FieldInvalid else None

-- an error is the fault, or want of memory
abbrev pub IsFaultOrMemory : Option Error → Error → Type 0
IsFaultOrMemory fault e = (fault ≡ Some e) ⊎ (e ≡ OutOfMemory)
