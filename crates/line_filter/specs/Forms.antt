-- The text that a file's bytes mean where its lines end as Windows' editors end them, or where it has comments as files of
-- htpasswd(1) have them.
use Rattle.std.specs.Prelude.{ℕ, Bool, true, false, ◌&&◌, ◌==◌, List, [], ◌∷◌, ◌++◌, if◌then◌else◌}
use Rattle.std.specs.List.{slice_split}
use Rattle.line_io.specs.Lines.{is_feed}
use Rattle.line_filter.specs.declared.forms.LineForms.{LineForms}

-- ---- a byte order mark, and carriage returns before line feeds

-- The text without the byte order mark of UTF-8 at its beginning: the bytes EF BB BF (RFC 3629, section 6).
abbrev pub without_mark : List ℕ → List ℕ
without_mark [] = []
without_mark (a ∷ []) = a ∷ []
without_mark (a ∷ b ∷ []) = a ∷ b ∷ []
without_mark (a ∷ b ∷ c ∷ text) = if (a == 239) && (b == 187) && (c == 191) then text else a ∷ b ∷ c ∷ text

-- the text begins with a line feed
abbrev pub begins_with_feed : List ℕ → Bool
begins_with_feed [] = false
begins_with_feed (b ∷ text) = is_feed b

-- The text without the carriage returns (13) that stand before a line feed.
abbrev pub without_returns : List ℕ → List ℕ
without_returns [] = []
without_returns (b ∷ text) =
    if (b == 13) && begins_with_feed text then without_returns text else b ∷ without_returns text

-- ---- comments and empty lines

-- a line that is passed over: it is empty, or begins with `#`
abbrev pub is_passed_over : List ℕ → Bool
is_passed_over [] = true
is_passed_over (b ∷ line) = b == 35

-- The text by its parts, which line feeds end, all but the last: each that is passed over is left out, with its line feed.
abbrev pub kept_parts : List (List ℕ) → List ℕ
kept_parts [] = []
kept_parts (last ∷ []) = if is_passed_over last then [] else last
kept_parts (part ∷ next ∷ more) =
    if is_passed_over part then kept_parts (next ∷ more) else part ++ 10 ∷ kept_parts (next ∷ more)

-- The text without its lines that are passed over.
abbrev pub kept_lines : List ℕ → List ℕ
kept_lines text = kept_parts (slice_split is_feed text)

-- ---- both, as they are asked for: the carriage returns go first

abbrev pub unix_text : Bool → List ℕ → List ℕ
unix_text true text = without_returns (without_mark text)
unix_text false text = text

abbrev pub kept_text : Bool → List ℕ → List ℕ
kept_text true text = kept_lines text
kept_text false text = text

-- what a text means
abbrev pub meant : LineForms → List ℕ → List ℕ
meant forms text = kept_text forms.htpasswd (unix_text forms.crlf text)
