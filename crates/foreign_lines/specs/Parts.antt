-- Where a stored text stands in a line.
use Rattle.std.specs.Prelude.{ℕ, Bool, ◌&&◌, not, List, [], ◌∷◌, ◌++◌, ◌==◌, length, Option, Some, None, if◌then◌else◌}
use Rattle.std.specs.List.{after_last, before_last, list_any}
use Rattle.std.specs.Str.{is_utf8}
use Rattle.pieces.specs.Characters.{is_tab}
use Rattle.application_texts.specs.Makers.{has_clear_texts, has_colons}
use Rattle.application_texts.specs.declared.makers.Maker.{Maker}
use Rattle.shadow_fields.specs.Fields.{first_field, has_user, is_locked, rest_of, user_of}
use Rattle.foreign_lines.specs.declared.parts.LineForm.{LineForm}
use Rattle.foreign_lines.specs.declared.parts.LineForm.TheVariants.{Password, Surveyed, UserPassword, UserText}

-- a line's user and password, where it has them, and its stored text
pub record Parts : Type 0 where
  pub user : List ℕ
  pub password : List ℕ
  pub text : List ℕ

-- a text cut at its last tab
abbrev pub cut_parts : List ℕ → List ℕ → Option Parts
cut_parts user text =
    if list_any is_tab text
    then Some (record { user = user; password = before_last is_tab text; text = after_last is_tab text }) else None

-- a password, a tab and a stored text, in UTF-8
abbrev pub password_parts : List ℕ → List ℕ → Option Parts
password_parts user rest = if is_utf8 rest then cut_parts user rest else None

-- a stored text in UTF-8
abbrev pub utf8_parts : List ℕ → List ℕ → Option Parts
utf8_parts user text = if is_utf8 text then Some (record { user = user; password = []; text = text }) else None

-- a text of a locked account, but where a maker's text without a tag is the password itself
abbrev pub is_locked_by : Maker → List ℕ → Bool
is_locked_by foreign text = not (has_clear_texts foreign) && is_locked text

-- a stored text that is there, and isn't of a locked account
abbrev pub text_parts : Maker → List ℕ → List ℕ → Option Parts
text_parts foreign user text =
    if length text == 0 then None else if is_locked_by foreign text then None else utf8_parts user text

-- the stored text of a user: it ends at the next colon, but where the maker's texts have colons
abbrev pub text_in : Maker → List ℕ → List ℕ
text_in foreign rest = if has_colons foreign then rest else first_field rest

-- the parts of a user, a colon, a password, a tab and a stored text
abbrev pub user_password_parts : List ℕ → Option Parts
user_password_parts line = if has_user line then password_parts (user_of line) (rest_of line) else None

-- the parts of a user, a colon and a stored text
abbrev pub user_text_parts : Maker → List ℕ → Option Parts
user_text_parts foreign line = if has_user line then text_parts foreign (user_of line) (text_in foreign (rest_of line)) else None

-- the parts of a line; none where no text is converted in it
unfoldable pub parts_in : Maker → LineForm → List ℕ → Option Parts
parts_in foreign Password line = password_parts [] line
parts_in foreign UserPassword line = user_password_parts line
parts_in foreign UserText line = user_text_parts foreign line
parts_in foreign Surveyed line = user_text_parts foreign line

-- the line with another stored text; of a line of texts no field behind it is kept
abbrev pub line_with : LineForm → Parts → List ℕ → List ℕ
line_with Password p stored = p.password ++ 9 ∷ stored
line_with UserPassword p stored = (p.user ++ 58 ∷ p.password) ++ 9 ∷ stored
line_with UserText p stored = p.user ++ 58 ∷ stored
line_with Surveyed p stored = p.user ++ 58 ∷ stored
