-- What the parts of a text show.
use Rattle.std.specs.Prelude.{Result, Ok, Err}
use Rattle.md5_plain.specs.Verdict.{Md5Fields}
use Rattle.md5_plain.specs.declared.check.Md5Text.{Md5Text}
use Rattle.md5_plain.specs.declared.error.Md5Fault.{Md5Fault}

-- the parts as lists
abbrev pub fields_of : Md5Text → Md5Fields
fields_of t = record { salt = t.salt.now; hash = t.hash.now }

-- the same of an answer
abbrev pub as_form : Result Md5Text Md5Fault → Result Md5Fields Md5Fault
as_form (Err e) = Err e
as_form (Ok t) = Ok (fields_of t)
