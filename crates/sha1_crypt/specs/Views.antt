-- What the parts of a text show.
use Rattle.std.specs.Prelude.{Result, Ok, Err}
use Rattle.sha1_crypt.specs.Text.{Fields, Parts}
use Rattle.sha1_crypt.specs.declared.text.Sha1Fields.{Sha1Fields}
use Rattle.sha1_crypt.specs.declared.text.Sha1Parts.{Sha1Parts}
use Rattle.sha1_crypt.specs.declared.error.Sha1Fault.{Sha1Fault}

-- the fields as lists
abbrev pub fields_of : Sha1Fields → Fields
fields_of f = record { rounds = f.rounds.now; salt = f.salt.now; hash = f.hash.now }

-- the same of an answer
abbrev pub as_fields : Result Sha1Fields Sha1Fault → Result Fields Sha1Fault
as_fields (Err e) = Err e
as_fields (Ok f) = Ok (fields_of f)

-- the parts as lists
abbrev pub as_parts : Result Sha1Parts Sha1Fault → Result Parts Sha1Fault
as_parts (Err e) = Err e
as_parts (Ok p) = Ok (record { rounds = p.rounds; salt = p.salt.now; hash = p.hash })
