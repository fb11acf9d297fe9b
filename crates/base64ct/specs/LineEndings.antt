-- Line endings.
use Rattle.std.specs.Prelude.{ℕ, List, [], ◌∷◌}
use Rattle.base64ct.specs.declared.line_ending.LineEnding.{LineEnding}
use Rattle.base64ct.specs.declared.line_ending.LineEnding.TheVariants.{CR, LF, CRLF}

-- the bytes of a line ending
abbrev pub ending_bytes : LineEnding → List ℕ
ending_bytes CR = 13 ∷ []
ending_bytes LF = 10 ∷ []
ending_bytes CRLF = 13 ∷ 10 ∷ []
