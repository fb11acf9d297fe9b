-- What the parts of a text show.
use Rattle.std.specs.Prelude.{Result, Ok, Err}
use Rattle.mysql_sha2.specs.Text.{Fields, Parts}
use Rattle.mysql_sha2.specs.declared.fields.MysqlFields.{MysqlFields}
use Rattle.mysql_sha2.specs.declared.text.MysqlParts.{MysqlParts}
use Rattle.mysql_sha2.specs.declared.error.MysqlFault.{MysqlFault}

-- the fields as lists
abbrev pub fields_of : MysqlFields → Fields
fields_of f = record { thousands = f.thousands.now; salt = f.salt.now; hash = f.hash.now }

-- the same of an answer
abbrev pub as_fields : Result MysqlFields MysqlFault → Result Fields MysqlFault
as_fields (Err e) = Err e
as_fields (Ok f) = Ok (fields_of f)

-- the parts as lists
abbrev pub parts_as : MysqlParts → Parts
parts_as p = record { rounds = p.rounds; salt = p.salt; placed = p.placed }

-- the same of an answer
abbrev pub as_parts : Result MysqlParts MysqlFault → Result Parts MysqlFault
as_parts (Err e) = Err e
as_parts (Ok p) = Ok (parts_as p)
