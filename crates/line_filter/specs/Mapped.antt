-- The lines of a text, each with another line in its place.
use Rattle.std.specs.Prelude.{ℕ, List, [], ◌∷◌, ◌++◌, length, nat_lt, if◌then◌else◌}
use Rattle.std.specs.List.{flat_map}
use Rattle.line_io.specs.Limits.{line_max}
use Rattle.line_io.specs.Lines.{lines}

-- what gives a line for a line
abbrev pub Rule : Type 0
Rule = List ℕ → List ℕ

-- the line in the place of another: an empty one where that has more than 8,192 bytes
unfoldable pub mapped_line : Rule → List ℕ → List ℕ
mapped_line rule line = if nat_lt line_max (length line) then [] else rule line

-- the lines in the places of those of a text, each with a line feed
unfoldable pub mapped_text : Rule → List ℕ → List ℕ
mapped_text rule text = flat_map (λ line. mapped_line rule line ++ 10 ∷ []) (lines text)
