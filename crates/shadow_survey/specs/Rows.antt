-- What is written for the lines of a survey.
use Rattle.std.specs.Prelude.{ℕ, Bool, true, false, ◌+◌, ◌/◌, ◌%◌, ◌&&◌, ◌||◌, ◌==◌, List, [], ◌∷◌, ◌++◌, length, nat_le, nat_lt, not, codes}
use Rattle.std.specs.Prelude.{if◌then◌else◌}
use Rattle.std.specs.Str.{is_utf8}
use Rattle.line_io.specs.Limits.{line_max}
use Rattle.shadow_fields.specs.Fields.{has_user, text_of_line, user_of}
use Rattle.shadow_survey.specs.Cells.{cost_cell, costs_in, judgement_cell, scheme_cell}
use Rattle.shadow_survey.specs.Counting.{totals}
use Rattle.shadow_survey.specs.Judgements.{judged}
use Rattle.shadow_survey.specs.declared.cells.Format.{Format}
use Rattle.shadow_survey.specs.declared.cells.Format.TheVariants.{Tabs, Csv, Json}
use Rattle.shadow_survey.specs.declared.counts.Counts.{Counts}
use Rattle.shadow_survey.specs.declared.judgement.Judgement.{Judgement}
use Rattle.shadow_survey.specs.declared.judgement.Judgement.TheVariants.{BadLine, Empty, Invalid, Locked, Strong, TooLong, Unsupported, Weak}
use Rattle.shadow_survey.specs.declared.least.LeastCosts.{LeastCosts}

-- ---- a user, with no character that a terminal obeys

-- a hexadecimal digit
abbrev pub hexadecimal : ℕ → ℕ
hexadecimal n = if nat_lt n 10 then 48 + n else 87 + n

-- a control character is a question mark, and escaped in JSON (RFC 8259, section 7)
abbrev pub control : Format → ℕ → List ℕ
control Tabs c = codes "?"
control Csv c = codes "?"
control Json c = 92 ∷ 117 ∷ 48 ∷ 48 ∷ hexadecimal (c / 16) ∷ hexadecimal (c % 16) ∷ []

-- another byte: a quotation mark is doubled in CSV (RFC 4180, section 2), and escaped in JSON as a backslash is
abbrev pub plain : Format → ℕ → List ℕ
plain Tabs b = b ∷ []
plain Csv b = if b == 34 then 34 ∷ 34 ∷ [] else b ∷ []
plain Json b = if b == 34 then 92 ∷ 34 ∷ [] else if b == 92 then 92 ∷ 92 ∷ [] else b ∷ []

-- below a space, or `DEL`
abbrev pub is_control : ℕ → Bool
is_control b = nat_lt b 32 || b == 127

-- A byte after another. In UTF-8 194 begins U+0080 to U+00BF, of which those below U+00A0 are control characters: it waits
-- for the next byte.
abbrev pub shown : Format → ℕ → ℕ → List ℕ
shown format before b =
    if b == 194 then []
    else if before == 194 then (if nat_lt b 160 then control format b else 194 ∷ b ∷ [])
    else if is_control b then control format b else plain format b

-- the bytes of a text in UTF-8, after another byte
abbrev pub shown_after : Format → ℕ → List ℕ → List ℕ
shown_after format before [] = []
shown_after format before (b ∷ text) = shown format before b ++ shown_after format b text

-- each form shows these as they are: of ASCII those from the space on but the quotation mark, the backslash and `DEL`
abbrev pub is_plain : ℕ → Bool
is_plain b = nat_le 32 b && nat_lt b 127 && not (b == 34) && not (b == 92)

-- the text
unfoldable pub shown_text : Format → List ℕ → List ℕ
shown_text format text = shown_after format 0 text

-- ---- a row

-- a cell that a spreadsheet would run, since it begins with `=`, `+`, `-` or `@`, gets an apostrophe (OWASP, CSV injection)
abbrev pub apostrophe : List ℕ → List ℕ
apostrophe [] = []
apostrophe (b ∷ text) = if b == 61 || b == 43 || b == 45 || b == 64 then codes "'" else []

-- a user, the scheme, its costs and the judgement, with tabs between them
abbrev pub tabs_row : List ℕ → Judgement → List ℕ
tabs_row user j =
    shown_text Tabs user ++ (codes "\t" ++ (scheme_cell Tabs (costs_in j) ++ (codes "\t" ++ (cost_cell Tabs (costs_in j)
    ++ (codes "\t" ++ (judgement_cell j ++ codes "\n"))))))

-- the same as four fields of CSV
abbrev pub csv_row : List ℕ → Judgement → List ℕ
csv_row user j =
    codes "\"" ++ (apostrophe user ++ (shown_text Csv user ++ (codes "\"," ++ (scheme_cell Csv (costs_in j)
    ++ (codes ",\"" ++ (cost_cell Csv (costs_in j) ++ (codes "\"," ++ (judgement_cell j ++ codes "\n"))))))))

-- what ends an object: whether the judgement is weak
abbrev pub weak_end : Judgement → List ℕ
weak_end (Weak text what) = codes "\",\"weak\":true}\n"
weak_end (Strong text) = codes "\",\"weak\":false}\n"
weak_end Empty = codes "\",\"weak\":false}\n"
weak_end Locked = codes "\",\"weak\":false}\n"
weak_end (Unsupported form) = codes "\",\"weak\":false}\n"
weak_end Invalid = codes "\",\"weak\":false}\n"
weak_end BadLine = codes "\",\"weak\":false}\n"
weak_end TooLong = codes "\",\"weak\":false}\n"

-- the same as an object of JSON, with whether the judgement is weak
abbrev pub json_row : List ℕ → Judgement → List ℕ
json_row user j =
    codes "{\"user\":\"" ++ (shown_text Json user ++ (codes "\",\"scheme\":" ++ (scheme_cell Json (costs_in j)
    ++ (codes ",\"cost\":" ++ (cost_cell Json (costs_in j) ++ (codes ",\"judgement\":\"" ++ (judgement_cell j
    ++ weak_end j)))))))

-- in this form
abbrev pub row_text : Format → List ℕ → Judgement → List ℕ
row_text Tabs user j = tabs_row user j
row_text Csv user j = csv_row user j
row_text Json user j = json_row user j

-- ---- a line

-- its user and the judgement on its text, the second field (shadow(5)); the user of a line without one is empty
abbrev pub surveyed : LeastCosts → List ℕ → List ℕ × Judgement
surveyed least line =
    if has_user line && is_utf8 (user_of line) then (user_of line, judged least (text_of_line line))
    else ([], BadLine)

-- the same of a line of any length
unfoldable pub surveyed_line : LeastCosts → List ℕ → List ℕ × Judgement
surveyed_line least line = if nat_lt line_max (length line) then ([], TooLong) else surveyed least line

-- what is written for a line
unfoldable pub line_row : Format → LeastCosts → List ℕ → List ℕ
line_row format least line = row_text format (surveyed_line least line).0 (surveyed_line least line).1

-- a line is good where its account is locked or nothing of its text is weak
abbrev pub is_good : Judgement → Bool
is_good (Strong text) = true
is_good Locked = true
is_good (Weak text what) = false
is_good Empty = false
is_good (Unsupported form) = false
is_good Invalid = false
is_good BadLine = false
is_good TooLong = false

-- ---- what is written before the first row and after the last

-- the names of the columns
abbrev pub header_text : Format → List ℕ
header_text Tabs = []
header_text Csv = codes "user,scheme,cost,judgement\n"
header_text Json = []

-- the same, where no line was read yet
abbrev pub front_text : Bool → Format → List ℕ
front_text true format = []
front_text false format = header_text format

-- an empty line and the counts, where the form is for people
abbrev pub counts_text : Format → Counts → List ℕ
counts_text Tabs counts = 10 ∷ totals counts
counts_text Csv counts = []
counts_text Json counts = []
