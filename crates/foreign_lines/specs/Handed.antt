-- What a program over lines gets of a line whose stored text is converted, or what is written in its place.
use Rattle.std.specs.Prelude.{ℕ, Bool, false, List, [], ◌∷◌, ◌++◌, codes, length, nat_lt, Option, Some, None, Result, Ok, Err}
use Rattle.std.specs.Prelude.{if◌then◌else◌}
use Rattle.line_io.specs.Limits.{line_max}
use Rattle.application_texts.specs.Makers.{read_by}
use Rattle.foreign_text.specs.Words.{fault_word}
use Rattle.application_texts.specs.declared.makers.Maker.{Maker}
use Rattle.foreign_text.specs.declared.fault.ForeignFault.{ForeignFault}
use Rattle.foreign_text.specs.declared.fault.ForeignFault.TheVariants.{Locked}
use Rattle.foreign_lines.specs.Parts.{Parts, line_with, parts_in}
use Rattle.foreign_lines.specs.declared.parts.LineForm.{LineForm}
use Rattle.foreign_lines.specs.declared.parts.LineForm.TheVariants.{Password, Surveyed, UserPassword, UserText}

-- A line for the program, or a reply that is written in its place.
abbrev pub Handed : Type 0
Handed = Result (List ℕ) (List ℕ)

-- the word of a cause and a line feed
abbrev pub word_line : ForeignFault → List ℕ
word_line fault = fault_word fault ++ 10 ∷ []

-- in place of a text that isn't converted: of a locked account a locked one, and else its cause's word, which is of an unsupported form
abbrev pub surveyed_text : ForeignFault → List ℕ
surveyed_text Locked = codes "!"
surveyed_text fault = fault_word fault

-- Where a text isn't converted, its cause's word is written, after the user where there is one. A survey gets a text in its place.
abbrev pub refused : LineForm → Parts → ForeignFault → Handed
refused Password p fault = Err (word_line fault)
refused UserPassword p fault = Err (p.user ++ 9 ∷ word_line fault)
refused UserText p fault = Err (p.user ++ 9 ∷ word_line fault)
refused Surveyed p fault = Ok (line_with Surveyed p (surveyed_text fault))

-- by what the converter says
abbrev pub by_answer : LineForm → Parts → Result (List ℕ) ForeignFault → Handed
by_answer form p (Err fault) = refused form p fault
by_answer form p (Ok stored) = Ok (line_with form p stored)

-- by the parts of the line
abbrev pub by_parts : Maker → LineForm → List ℕ → Option Parts → Handed
by_parts foreign form line None = Ok line
by_parts foreign form line (Some p) = by_answer form p (read_by foreign p.text)

-- of a line; one of more than 8,192 bytes is handed on as it is
unfoldable pub handed : Maker → LineForm → List ℕ → Handed
handed foreign form line =
    if nat_lt line_max (length line) then Ok line else by_parts foreign form line (parts_in foreign form line)

-- ---- by what the program does with a line

-- its reply, or the one in its place
abbrev pub by_reply : (List ℕ → List ℕ) → Handed → List ℕ
by_reply reply (Ok line) = reply line
by_reply reply (Err text) = text

-- its answer to a test; no where it gets no line
abbrev pub by_test : (List ℕ → Bool) → Handed → Bool
by_test test (Ok line) = test line
by_test test (Err text) = false
