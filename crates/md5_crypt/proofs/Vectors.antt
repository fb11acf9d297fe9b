-- What the program owes.
use Rattle.std.specs.Prelude.{◌≡◌, refl, ℕ, List}
use Rattle.line_program.specs.Outcome.{output}
use Rattle.line_program.specs.PlainOutput.{plain_output}
use Rattle.md5_crypt.specs.Run.{legacy_rules, verdict_with_scrypt}

-- what the program owes for an input is the plain output of its verdict
owed : (input : List ℕ) → output legacy_rules input ≡ plain_output verdict_with_scrypt input
owed input = refl
