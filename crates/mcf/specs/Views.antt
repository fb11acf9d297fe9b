-- What is read off a lent text.
use Rattle.std.specs.Prelude.{ℕ, List}
use Rattle.pieces.specs.Pieces.{pieces_left}
use Rattle.mcf.specs.declared.PasswordHashRef.{PasswordHashRef}
use Rattle.mcf.specs.declared.fields.Field.{Field}
use Rattle.mcf.specs.declared.fields.Fields.{Fields}
use Rattle.pieces.specs.Characters.{dollar}

-- the text of a password hash
abbrev pub hash_text : PasswordHashRef → List ℕ
hash_text hash = hash.text.now

-- the text of a field
abbrev pub field_text : Field → List ℕ
field_text field = field.text.now

-- the texts of the fields that are left
abbrev pub fields_left : Fields → List (List ℕ)
fields_left fields = pieces_left dollar fields.rest
