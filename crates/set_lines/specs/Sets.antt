-- Lines of users and stored texts (shadow(5), htpasswd(1)), each as the command that sets the text.
use Rattle.std.specs.Prelude.{ℕ, List, [], ◌∷◌, ◌++◌, codes, map, if◌then◌else◌}
use Rattle.std.specs.List.{flat_map, list_any}
use Rattle.line_io.specs.Lines.{lines}
use Rattle.pieces.specs.Characters.{is_tab}
use Rattle.shadow_fields.specs.Fields.{is_colon, text_of_line, user_of}

-- A tab would end a user's name in a command. It is written as a colon, which no name has.
abbrev pub name_byte : ℕ → ℕ
name_byte b = if is_tab b then 58 else b

-- a tab and the text of a line; nothing where the line has no colon
abbrev pub text_part : List ℕ → List ℕ
text_part line = if list_any is_colon line then 9 ∷ text_of_line line else []

-- what comes after the first tab of the command
abbrev pub parts_of : List ℕ → List ℕ
parts_of line = map name_byte (user_of line) ++ text_part line

-- The command of a line: from now on its text is that of its user. A line without a colon has no text, and then this is no command.
abbrev pub set_of : List ℕ → List ℕ
set_of line = codes "set" ++ 9 ∷ parts_of line

-- these commands, each with a line feed
abbrev pub sets_of : List (List ℕ) → List ℕ
sets_of lines = flat_map (λ line. set_of line ++ 10 ∷ []) lines

-- the commands of the lines of a text
unfoldable pub set_text : List ℕ → List ℕ
set_text text = sets_of (lines text)
