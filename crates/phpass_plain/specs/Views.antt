-- What the parts of a text show.
use Rattle.std.specs.Prelude.{Result, Ok, Err}
use Rattle.phpass_plain.specs.Text.{Parts}
use Rattle.phpass_plain.specs.declared.text.PhpassParts.{PhpassParts}
use Rattle.phpass_plain.specs.declared.error.PhpassFault.{PhpassFault}

-- the parts as lists
abbrev pub as_parts : Result PhpassParts PhpassFault → Result Parts PhpassFault
as_parts (Err e) = Err e
as_parts (Ok p) = Ok (record { cost = p.cost; salt = p.salt.now; digest = p.digest })
