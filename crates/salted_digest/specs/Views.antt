-- What the parts of a text show.
use Rattle.std.specs.Prelude.{Result, Ok, Err}
use Rattle.salted_digest.specs.Text.{Fields, Parts}
use Rattle.salted_digest.specs.declared.fields.SaltedFields.{SaltedFields}
use Rattle.salted_digest.specs.declared.text.SaltedParts.{SaltedParts}
use Rattle.salted_digest.specs.declared.error.SaltedFault.{SaltedFault}

-- the fields as lists
abbrev pub fields_of : SaltedFields → Fields
fields_of f = record { hash = f.hash; salt = f.salt.now; digest = f.digest.now }

-- the same of an answer
abbrev pub as_fields : Result SaltedFields SaltedFault → Result Fields SaltedFault
as_fields (Err e) = Err e
as_fields (Ok f) = Ok (fields_of f)

-- the parts
abbrev pub parts_as : SaltedParts → Parts
parts_as p = record { hash = p.hash; salt = p.salt; digest = p.digest }

-- the same of an answer
abbrev pub as_parts : Result SaltedParts SaltedFault → Result Parts SaltedFault
as_parts (Err e) = Err e
as_parts (Ok p) = Ok (parts_as p)
