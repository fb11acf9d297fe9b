-- What the parameters of a text of passlib show.
use Rattle.std.specs.Prelude.{ℕ, List, Option, Some, None}
use Rattle.bcrypt_digest.specs.Text.{Parameters}
use Rattle.bcrypt_digest.specs.declared.text.Form.{Form}

-- the parameters as lists
abbrev pub parameters_of : Form → Parameters
parameters_of f = record { front = f.front; id = f.id.now; cost = f.cost.now }

-- the same of an answer
abbrev pub as_form : Option Form → Option Parameters
as_form None = None
as_form (Some f) = Some (parameters_of f)
