-- The limit of lines.
use Rattle.std.specs.Prelude.{ℕ}

-- the most bytes of a line
abbrev pub line_max : ℕ
line_max = 8192
