use Rattle.std.proofs.Common.{◌≡◌, length}
use Rattle.pieces.specs.Pieces.{pieces_left}
use Rattle.mcf.specs.Grammar.{first_field_fault}
use Rattle.pieces.specs.Characters.{dollar}
use Rattle.mcf.proofs.fields.first_fault.Given as goal

-- the fields that are left have the first fault of all
abbrev pub invariant-fields : goal.invariant-fields
invariant-fields l = first_field_fault (pieces_left dollar l.rest) ≡ first_field_fault (pieces_left dollar l.fields)

abbrev pub decreases-fields : goal.decreases-fields
decreases-fields l = length (pieces_left dollar l.rest)
