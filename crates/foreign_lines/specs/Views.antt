-- What the parts of a line show.
use Rattle.std.specs.Prelude.{Option, Some, None}
use Rattle.foreign_lines.specs.Parts.{Parts}
use Rattle.foreign_lines.specs.declared.parts.LineParts.{LineParts}

-- the parts as lists
abbrev pub parts_of : LineParts → Parts
parts_of p = record { user = p.user.now; password = p.password.now; text = p.text.now }

-- the same, if there are some
abbrev pub as_parts : Option LineParts → Option Parts
as_parts None = None
as_parts (Some p) = Some (parts_of p)
