-- Successive calls of next_line on one buffer and one source.
use Rattle.std.specs.Prelude.{◌≡◌, ◌≢◌, ℕ, ◌≤◌, ◌<◌, true, false, nat_lt, if◌then◌else◌, List, [], ◌∷◌, ◌++◌, length}
use Rattle.std.specs.Prelude.{take, map, Option, Some, ⊤}
use Rattle.std.specs.Io.KnownBytes.{Consumes}
use Rattle.line_io.specs.Lines.{lines, whole_lines}
use Rattle.line_io.specs.Buffer.{pending, line, taken, max_bytes, is_ended, is_closed, is_last, Takes, KnowsEnd}
use Rattle.line_io.specs.declared.buffer.LineBuffer.{LineBuffer}
use Rattle.line_io.specs.declared.buffer.Line.{Line}
use Rattle.line_io.specs.declared.buffer.Line.TheVariants.{Whole, TooLong, End, Failed, Budget}
use Rattle.line_io.specs.Limits.{line_max}

-- a buffer that nothing was read into
pub record IsNew (max : ℕ) (b : LineBuffer) : Type 0 where
  pub pending_none : pending b ≡ []
  pub taken_none : taken b ≡ 0
  pub max_same : max_bytes b ≡ max
  pub unended : is_ended b ≡ false
  pub unclosed : is_closed b ≡ false

-- what one call does: the clauses of next_line that speak of the buffer and of the bytes that its source tells
pub record IsCall (answer : Line) (left left_now : Option (List ℕ)) (before now : LineBuffer) : Type 0 where
  pub takes : Takes answer left left_now before now
  pub max_same : max_bytes now ≡ max_bytes before
  pub closed : is_closed now ≡ is_last answer
  pub after_end : is_ended before ≡ true → (taken now ≡ taken before) × (answer ≢ Failed)
  pub at_end : KnowsEnd before left → KnowsEnd now left_now

-- successive calls, each on a buffer that isn't closed; each gave an answer, and the line that the buffer shows then
abbrev pub Calls : List (Line × List ℕ) → Option (List ℕ) → LineBuffer → Option (List ℕ) → LineBuffer → Type 0
Calls [] left before left_now now = (left_now ≡ left) × (now ≡ before)
Calls (a ∷ more) left before left_now now = (left_mid : Option (List ℕ)) × (mid : LineBuffer) ×
    (is_closed before ≡ false) × IsCall a.0 left left_mid before mid × (a.1 ≡ line mid)
    × Calls more left_mid mid left_now now

-- how a line is answered, and what the buffer shows then
abbrev pub line_answer : List ℕ → Line × List ℕ
line_answer l = if nat_lt line_max (length l) then (TooLong, []) else (Whole (length l), l)

-- The answers before the last one, where the source held `held` and `taken` was taken of it.
abbrev pub AnswersUntil : Line → ℕ → List ℕ → List ℕ → List (Line × List ℕ) → Type 0
AnswersUntil End max held taken answers =
    (length held ≤ max) × (taken ≡ held) × (answers ≡ map line_answer (lines held))
AnswersUntil Failed max held taken answers = answers ≡ map line_answer (lines (whole_lines taken))
AnswersUntil Budget max held taken answers =
    (max < length held) × (answers ≡ map line_answer (lines (whole_lines (take max held))))
AnswersUntil (Whole n) max held taken answers = ⊤
AnswersUntil TooLong max held taken answers = ⊤

-- The law on whole runs: the lines that next_line gives before the end are the lines of the bytes, a long one as too
-- long; before a fault they are the whole lines of what was taken, and before the budget those that end among the
-- first max bytes.
abbrev pub LinesOfBytes : Type 0
LinesOfBytes = (max : ℕ) (held : List ℕ) (first before now : LineBuffer) (left left_now : Option (List ℕ))
    (answers : List (Line × List ℕ)) (last : Line) →
    IsNew max first → Calls answers (Some held) first left before → is_closed before ≡ false
    → IsCall last left left_now before now →
    (taken_bytes : List ℕ) × Consumes (Some held) left_now taken_bytes × AnswersUntil last max held taken_bytes answers

-- the first list is the beginning of the second
abbrev pub IsPrefix : List ℕ → List ℕ → Type 0
IsPrefix part all = (rest : List ℕ) × (part ++ rest ≡ all)
