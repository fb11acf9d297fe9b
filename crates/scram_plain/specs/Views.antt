-- What the parts of a text show.
use Rattle.std.specs.Prelude.{Result, Ok, Err}
use Rattle.scram_plain.specs.Text.{Fields, Parts}
use Rattle.scram_plain.specs.declared.fields.ScramFields.{ScramFields}
use Rattle.scram_plain.specs.declared.text.ScramParts.{ScramParts}
use Rattle.scram_plain.specs.declared.error.ScramFault.{ScramFault}

-- the fields as lists
abbrev pub fields_of : ScramFields → Fields
fields_of f = record {
  preparation = f.preparation;
  rounds = f.rounds.now;
  salt = f.salt.now;
  stored = f.stored.now;
  server = f.server.now;
}

-- the same of an answer
abbrev pub as_fields : Result ScramFields ScramFault → Result Fields ScramFault
as_fields (Err e) = Err e
as_fields (Ok f) = Ok (fields_of f)

-- the parts
abbrev pub parts_as : ScramParts → Parts
parts_as p = record { preparation = p.preparation; rounds = p.rounds; salt = p.salt; stored = p.stored; server = p.server }

-- the same of an answer
abbrev pub as_parts : Result ScramParts ScramFault → Result Parts ScramFault
as_parts (Err e) = Err e
as_parts (Ok p) = Ok (parts_as p)
