-- The attributes of an entry of LDIF (RFC 2849), each on a line of its own.
use Rattle.std.specs.Prelude.{ℕ, Bool, false, ◌&&◌, ◌||◌, ◌==◌, ◌+◌, List, [], ◌∷◌, codes, Option, Some, None, if◌then◌else◌}
use Rattle.std.specs.Char.{is_ascii_uppercase}
use Rattle.std.specs.List.{after_first, list_any}
use Rattle.base64ct.specs.Alphabets.{base64}
use Rattle.base64ct.specs.Decoding.{decoding}
use Rattle.line_io.specs.Lines.{is_feed}
use Rattle.pieces.specs.Characters.{is_tab}

-- ---- names

-- a letter is small
abbrev pub small : ℕ → ℕ
small b = if is_ascii_uppercase b then b + 32 else b

-- The line is of the attribute of a name that is written small: names don't distinguish case (RFC 4512, section 2.5), and end at the
-- colon, or at the `;` before their options.
abbrev pub is_named : List ℕ → List ℕ → Bool
is_named [] [] = false
is_named [] (b ∷ line) = b == 58 || b == 59
is_named (c ∷ name) [] = false
is_named (c ∷ name) (b ∷ line) = small b == c && is_named name line

-- the distinguished name, with which an entry begins
abbrev pub is_dn : List ℕ → Bool
is_dn line = is_named (codes "dn") line

-- the name of a user (RFC 4519, section 2.39)
abbrev pub is_uid : List ℕ → Bool
is_uid line = is_named (codes "uid") line

-- a text of the user (RFC 4519, section 2.41; RFC 2307, section 5.3)
abbrev pub is_password : List ℕ → Bool
is_password line = is_named (codes "userpassword") line

-- ---- values

-- the text without the spaces at its beginning
abbrev pub without_fill : List ℕ → List ℕ
without_fill [] = []
without_fill (b ∷ text) = if b == 32 then without_fill text else b ∷ text

-- What comes after the name's colon (RFC 2849, `value-spec`): the value; or a colon more and the value in Base64; or `<` and an
-- address of the value, which isn't in the dump.
abbrev pub value_in : List ℕ → Option (List ℕ)
value_in [] = Some []
value_in (b ∷ rest) =
    if b == 58 then decoding base64 (without_fill rest) else if b == 60 then None else Some (without_fill (b ∷ rest))

-- the colon after the name
abbrev pub begins_value : ℕ → Bool
begins_value b = b == 58

-- the value of an attribute's line; none where it isn't there
unfoldable pub value : List ℕ → Option (List ℕ)
value line = if list_any begins_value line then value_in (after_first begins_value line) else None

-- ---- values in a line of a user, a colon and a text

-- What no name of a user in such a line has: a colon, a tab, a line feed.
abbrev pub ends_name : ℕ → Bool
ends_name b = b == 58 || is_tab b || is_feed b

-- In place of a user's name that isn't there or that no line can have is a tab, which no user's name has.
abbrev pub no_name : List ℕ
no_name = 9 ∷ []

abbrev pub name_by : Option (List ℕ) → List ℕ
name_by None = no_name
name_by (Some name) = if list_any ends_name name then no_name else name

-- In place of a text that isn't there or that no line can have is the byte 255, which is no UTF-8.
abbrev pub no_text : List ℕ
no_text = 255 ∷ []

abbrev pub text_by : Option (List ℕ) → List ℕ
text_by None = no_text
text_by (Some text) = if list_any is_feed text then no_text else text

-- the name and the text of an attribute's line
abbrev pub line_name : List ℕ → List ℕ
line_name line = name_by (value line)

abbrev pub line_text : List ℕ → List ℕ
line_text line = text_by (value line)
