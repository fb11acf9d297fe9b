-- The limits of a table.
use Rattle.std.specs.Prelude.{ℕ}

-- the most bytes of a name
abbrev pub name_max : ℕ
name_max = 64

-- the most bytes of a text
abbrev pub text_max : ℕ
text_max = 1024
