-- What answers and fields show.
use Rattle.std.specs.Prelude.{ℕ, List, Option, Some, None, Result, Ok, Err}
use Rattle.std.specs.Borrow.{Bor}
use Rattle.foreign_text.specs.Fields as fields
use Rattle.foreign_text.specs.declared.fields.Three.{Three}
use Rattle.foreign_text.specs.declared.fields.Five.{Five}
use Rattle.foreign_text.specs.declared.fields.Four.{Four}
use Rattle.foreign_text.specs.declared.fields.Two.{Two}
use Rattle.foreign_text.specs.declared.fault.ForeignFault.{ForeignFault}

-- two fields as lists
abbrev pub as_two : Result Two ForeignFault → Result fields.Two ForeignFault
as_two (Err e) = Err e
as_two (Ok f) = Ok (record { first = f.first.now; second = f.second.now })

-- three fields as lists
abbrev pub three : Three → fields.Three
three f = record { first = f.first.now; second = f.second.now; third = f.third.now }

abbrev pub as_three : Result Three ForeignFault → Result fields.Three ForeignFault
as_three (Err e) = Err e
as_three (Ok f) = Ok (three f)

-- four fields as lists
abbrev pub as_four : Result Four ForeignFault → Result fields.Four ForeignFault
as_four (Err e) = Err e
as_four (Ok f) = Ok (record { first = f.first.now; others = three f.others })

-- five fields as lists
abbrev pub as_five : Result Five ForeignFault → Result fields.Five ForeignFault
as_five (Err e) = Err e
as_five (Ok f) = Ok (record { first = f.first.now; second = f.second.now; others = three f.others })

-- the stored text of an answer: a part of the foreign text, or the one that was made
abbrev pub as_answer : Result (Option (Bor (List ℕ))) ForeignFault → List ℕ → Result (List ℕ) ForeignFault
as_answer (Err e) made = Err e
as_answer (Ok (Some text)) made = Ok text.now
as_answer (Ok None) made = Ok made
