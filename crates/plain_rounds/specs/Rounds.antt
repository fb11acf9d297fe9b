-- Numbers of rounds in decimal digits.
use Rattle.std.specs.Prelude.{ℕ, ◌^◌, ◌==◌, List, Option, Some, None, if◌then◌else◌}
use Rattle.pieces.specs.Numbers.{plain_number}

-- the number, where it isn't 0
abbrev pub rounds_from : Option ℕ → Option ℕ
rounds_from None = None
rounds_from (Some n) = if n == 0 then None else Some n

-- the rounds that a text writes plainly: 1 to 2 ^ 32 - 1
abbrev pub rounds_of : List ℕ → Option ℕ
rounds_of text = rounds_from (plain_number (2 ^ 32) text)
