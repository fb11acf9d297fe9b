-- Laws over the definitions.
use Rattle.std.specs.Prelude.{◌≡◌, ℕ, List, is_ok}
use Rattle.mysql_sha2.specs.Check.{mysql_answer}
use Rattle.mysql_sha2.specs.Text.{text_cost}

-- a text has a verdict, whatever the password, exactly where it has rounds
abbrev pub VerdictWhereCost : Type 0
VerdictWhereCost = (password text : List ℕ) → is_ok (mysql_answer password text) ≡ is_ok (text_cost text)
