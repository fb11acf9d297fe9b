-- The parameters of a record that are numbers.
use Rattle.std.specs.Prelude.{ℕ, List, Option}
use Rattle.std.specs.Option.{option_and_then}
use Rattle.phc.specs.Grammar.{decimal_value}
use Rattle.phc.specs.Params.{get}
use Rattle.phc.specs.declared.password_hash.PasswordHash.{PasswordHash}

-- the decimal with this name
abbrev pub number : PasswordHash → List ℕ → Option ℕ
number parsed name = option_and_then decimal_value (get parsed.params name)
