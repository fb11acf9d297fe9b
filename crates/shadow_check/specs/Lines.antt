-- What a line of a password file is answered with, where every scheme has a verdict.
use Rattle.std.specs.Prelude.{◌≡◌, ◌⊎◌, ℕ, Bool, true, false, List, [], ◌∷◌, ◌++◌, length, nat_lt, ◌&&◌, codes}
use Rattle.std.specs.Prelude.{if◌then◌else◌, Option, Ok, Err}
use Rattle.std.specs.List.{list_any, before_last, after_last}
use Rattle.std.specs.Str.{is_utf8}
use Rattle.pieces.specs.Characters.{is_tab}
use Rattle.line_program.specs.Rules.{LineRules, each_line}
use Rattle.line_io.specs.Limits.{line_max}
use Rattle.stored_check.specs.declared.error.StoredError.TheVariants.{OutOfMemory}
use Rattle.any_check.specs.Given.{given_may_lack, given_verdict}
use Rattle.any_check.specs.Table.{any_word}
use Rattle.any_check.specs.declared.numbers.SchemeCosts.{SchemeCosts}
use Rattle.any_check.specs.declared.error.AnyError.TheVariants.{Stored}
use Rattle.shadow_check.specs.declared.lines.LineAnswer.{LineAnswer}
use Rattle.shadow_check.specs.declared.lines.LineAnswer.TheVariants.{BadLine, Checked, TooLong}

-- ---- words

-- the word of an answer
abbrev pub answer_word : LineAnswer → List ℕ
answer_word TooLong = codes "toolong"
answer_word BadLine = codes "badline"
answer_word (Checked r) = any_word r

-- a match
abbrev pub is_match : LineAnswer → Bool
is_match (Checked (Ok b)) = b
is_match (Checked (Err e)) = false
is_match TooLong = false
is_match BadLine = false

-- a match or a mismatch
abbrev pub has_verdict : LineAnswer → Bool
has_verdict (Checked (Ok b)) = true
has_verdict (Checked (Err e)) = false
has_verdict TooLong = false
has_verdict BadLine = false

-- ---- the answer of a line

-- by the last tab of a line that is UTF-8
abbrev pub cut_answer : Option SchemeCosts → List ℕ → LineAnswer
cut_answer limits text =
    if list_any is_tab text then Checked (given_verdict limits (before_last is_tab text) (after_last is_tab text))
    else BadLine

-- The answer of a line, by the first that holds: more than 8,192 bytes; no UTF-8; no tab; else by its verdict.
unfoldable pub line_answer : Option SchemeCosts → List ℕ → LineAnswer
line_answer limits line =
    if nat_lt line_max (length line) then TooLong else if is_utf8 line then cut_answer limits line else BadLine

-- memory may be wanting for such a line
abbrev pub cut_may_lack : Option SchemeCosts → List ℕ → Bool
cut_may_lack limits text =
    list_any is_tab text && given_may_lack limits (before_last is_tab text) (after_last is_tab text)

-- memory may be wanting for a line
unfoldable pub line_may_lack : Option SchemeCosts → List ℕ → Bool
line_may_lack limits line =
    if nat_lt line_max (length line) then false else if is_utf8 line then cut_may_lack limits line else false

-- an answer is that of the text; or want of memory, where that may be
abbrev pub IsTextAnswer : Option SchemeCosts → List ℕ → LineAnswer → Type 0
IsTextAnswer limits text a =
    (a ≡ cut_answer limits text) ⊎ ((a ≡ Checked (Err (Stored OutOfMemory))) × (cut_may_lack limits text ≡ true))

-- the same of a line
abbrev pub IsLineAnswer : Option SchemeCosts → List ℕ → LineAnswer → Type 0
IsLineAnswer limits line a =
    (a ≡ line_answer limits line) ⊎ ((a ≡ Checked (Err (Stored OutOfMemory))) × (line_may_lack limits line ≡ true))

-- ---- what is written for a line: the word and a line feed

abbrev pub line_output : Option SchemeCosts → List ℕ → List ℕ
line_output limits line = answer_word (line_answer limits line) ++ 10 ∷ []

-- a line is good where it matches
abbrev pub line_is_good : Option SchemeCosts → List ℕ → Bool
line_is_good limits line = is_match (line_answer limits line)

-- the rules of a run
abbrev pub any_line_rules : Option SchemeCosts → LineRules
any_line_rules limits = each_line (line_output limits) (line_is_good limits) (line_may_lack limits)
