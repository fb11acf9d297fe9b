-- What a line of a password file is answered with.
use Rattle.std.specs.Prelude.{◌≡◌, ◌⊎◌, ℕ, Bool, true, false, List, [], ◌∷◌, ◌++◌, length, nat_lt, ◌&&◌, codes}
use Rattle.std.specs.Prelude.{if◌then◌else◌, Ok, Err}
use Rattle.std.specs.Fmt.{decimal}
use Rattle.std.specs.List.{list_any, before_last, after_last}
use Rattle.std.specs.Str.{is_utf8}
use Rattle.scrypt_plain.specs.Profile.{accepted, key, needs_memory}
use Rattle.stored_check.specs.Counts.{verdict_comparisons, verdict_looks}
use Rattle.stored_check.specs.Verdict.{may_lack_memory, verdict}
use Rattle.stored_check.specs.Words.{word}
use Rattle.stored_check.specs.declared.error.StoredError.TheVariants as of_stored
use Rattle.pwcheck_run.specs.declared.answer.Answer.{Answer}
use Rattle.pwcheck_run.specs.declared.answer.Answer.TheVariants.{TooLong, BadLine, Checked}
use Rattle.pwcheck_run.specs.declared.form.Form.{Form}
use Rattle.pwcheck_run.specs.declared.form.Form.TheVariants.{Plain, Counted}
use Rattle.pieces.specs.Characters.{is_tab}
use Rattle.line_program.specs.Rules.{LineRules, each_line}
use Rattle.line_io.specs.Limits.{line_max}

-- ---- words

-- the word of an answer
abbrev pub answer_word : Answer → List ℕ
answer_word TooLong = codes "toolong"
answer_word BadLine = codes "badline"
answer_word (Checked r) = word r

-- a match
abbrev pub is_match : Answer → Bool
is_match (Checked (Ok b)) = b
is_match (Checked (Err e)) = false
is_match TooLong = false
is_match BadLine = false

-- a match or a mismatch
abbrev pub has_verdict : Answer → Bool
has_verdict (Checked (Ok b)) = true
has_verdict (Checked (Err e)) = false
has_verdict TooLong = false
has_verdict BadLine = false

-- ---- the answer of a line

-- the answer of a line that is UTF-8: what stands before the last tab, the password, has a verdict with the stored text
-- behind it, or the first cause that it has none
abbrev pub utf8_answer : List ℕ → Answer
utf8_answer text =
    if list_any is_tab text then Checked (verdict accepted key (before_last is_tab text) (after_last is_tab text)) else
    BadLine

-- The answer of a line, by the first that holds: more than 8,192 bytes; no UTF-8; no tab; else by its verdict.
unfoldable pub answer : List ℕ → Answer
answer line = if nat_lt line_max (length line) then TooLong else if is_utf8 line then utf8_answer line else BadLine

-- the line is valid, its identifier is neither `5` nor `6`, and the derivation may need memory for its record
abbrev pub text_may_lack : List ℕ → Bool
text_may_lack text =
    list_any is_tab text && may_lack_memory accepted needs_memory key (before_last is_tab text) (after_last is_tab text)

-- memory may be wanting for a line: it has at most 8,192 bytes, is UTF-8, and the above holds of it
unfoldable pub line_may_lack : List ℕ → Bool
line_may_lack line = if nat_lt line_max (length line) then false else if is_utf8 line then text_may_lack line else false

-- an answer is that of a line that is UTF-8; or want of memory, where that may be
abbrev pub IsTextAnswer : List ℕ → Answer → Type 0
IsTextAnswer text a = (a ≡ utf8_answer text) ⊎ ((a ≡ Checked (Err of_stored.OutOfMemory)) × (text_may_lack text ≡ true))

-- the same of any line
abbrev pub IsAnswer : List ℕ → Answer → Type 0
IsAnswer line a = (a ≡ answer line) ⊎ ((a ≡ Checked (Err of_stored.OutOfMemory)) × (line_may_lack line ≡ true))

-- ---- counts

-- the look-ups of a line that has a verdict
abbrev pub line_looks : List ℕ → ℕ
line_looks line = verdict_looks (after_last is_tab line)

-- the comparisons of a line that has a verdict
abbrev pub line_comparisons : List ℕ → ℕ
line_comparisons line = verdict_comparisons (after_last is_tab line)

-- the counts, as they stand behind a match or a mismatch
abbrev pub counts_text : ℕ → ℕ → List ℕ
counts_text looks sames = codes " looks=" ++ decimal looks ++ codes " sames=" ++ decimal sames

-- ---- what is written for a line

-- the word, with `--count` the counts of a verdict, and a line feed
abbrev pub answer_text : Form → Answer → ℕ → ℕ → List ℕ
answer_text Plain a looks sames = answer_word a ++ 10 ∷ []
answer_text Counted a looks sames = answer_word a ++ (if has_verdict a then counts_text looks sames else []) ++ 10 ∷ []

-- what is written for a line
abbrev pub line_output : Form → List ℕ → List ℕ
line_output form line = answer_text form (answer line) (line_looks line) (line_comparisons line)

-- the answer of a line is a match
abbrev pub line_is_good : List ℕ → Bool
line_is_good line = is_match (answer line)

-- The rules of `check`, with and without `--count`: each line is answered by itself.
abbrev pub line_rules : Form → LineRules
line_rules form = each_line (line_output form) line_is_good line_may_lack
