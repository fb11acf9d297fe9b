-- Laws over the definitions.
use Rattle.std.specs.Prelude.{◌≡◌, ℕ, List, ◌∷◌, ◌++◌, codes, map, true}
use Rattle.line_io.specs.Lines.{lines}
use Rattle.set_lines.specs.Sets.{set_of, set_text}
use Rattle.shadow_fields.specs.Fields.{has_user, text_of_line, user_of}

-- The lines of the commands of a text are the commands of its lines, in their order.
abbrev pub LinesOfSets : Type 0
LinesOfSets = (text : List ℕ) → lines (set_text text) ≡ map set_of (lines text)

-- The command of a line that has a user is `set`, a tab, the user, a tab and the text.
abbrev pub SetsTheText : Type 0
SetsTheText =
    (line : List ℕ) → has_user line ≡ true → set_of line ≡ codes "set" ++ 9 ∷ (user_of line ++ 9 ∷ text_of_line line)
