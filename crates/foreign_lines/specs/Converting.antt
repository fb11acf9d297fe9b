-- Lines of users and foreign texts, each with its text converted, for what sets the texts of users.
use Rattle.std.specs.Prelude.{ℕ, Bool, ◌||◌, List, [], ◌∷◌, ◌++◌, ◌==◌, codes, length, nat_lt, Ok, Err, if◌then◌else◌}
use Rattle.std.specs.List.{list_any}
use Rattle.std.specs.Str.{is_utf8}
use Rattle.line_io.specs.Limits.{line_max}
use Rattle.foreign_text.specs.Answers.{Answer}
use Rattle.application_texts.specs.Makers.{read_by}
use Rattle.application_texts.specs.declared.makers.Maker.{Maker}
use Rattle.foreign_text.specs.declared.fault.ForeignFault.{ForeignFault}
use Rattle.foreign_text.specs.declared.fault.ForeignFault.TheVariants.{Locked}
use Rattle.shadow_fields.specs.Fields.{has_user, is_colon, rest_of, user_of}
use Rattle.foreign_lines.specs.Parts.{is_locked_by, text_in}

-- a line of a user and a text, where it has at most 8,192 bytes; else nothing, which is no such line
abbrev pub fitting : List ℕ → List ℕ
fitting line = if nat_lt line_max (length line) then [] else line

abbrev pub user_text : List ℕ → List ℕ → List ℕ
user_text user text = fitting (user ++ 58 ∷ text)

-- a text that isn't converted: that of a locked account is a locked one, and for each other there is no line
abbrev pub unconverted_line : List ℕ → ForeignFault → List ℕ
unconverted_line user Locked = user_text user (codes "!")
unconverted_line user fault = []

-- The converted text; one with a colon would end at it.
abbrev pub with_stored : List ℕ → List ℕ → List ℕ
with_stored user stored = if list_any is_colon stored then [] else user_text user stored

abbrev pub by_stored : List ℕ → Answer → List ℕ
by_stored user (Ok stored) = with_stored user stored
by_stored user (Err fault) = unconverted_line user fault

-- an empty text, and one of a locked account, stay
abbrev pub stays : Maker → List ℕ → Bool
stays foreign text = length text == 0 || is_locked_by foreign text

abbrev pub by_utf8 : Maker → List ℕ → List ℕ → List ℕ
by_utf8 foreign user text = if is_utf8 text then by_stored user (read_by foreign text) else []

abbrev pub by_text : Maker → List ℕ → List ℕ → List ℕ
by_text foreign user text = if stays foreign text then user_text user text else by_utf8 foreign user text

-- The line with its text converted. Where there is no user, or no text that is converted, it is empty.
unfoldable pub converted_line : Maker → List ℕ → List ℕ
converted_line foreign line =
    if has_user line then by_text foreign (user_of line) (text_in foreign (rest_of line)) else []
