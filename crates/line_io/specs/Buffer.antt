-- What a line buffer holds, and what an answer says.
use Rattle.std.specs.Prelude.{◌≡◌, ◌⊎◌, ◌↔◌, ℕ, ◌+◌, ◌-◌, ◌≤◌, ◌<◌, Bool, true, false, List, [], ◌∷◌, ◌++◌, length}
use Rattle.std.specs.Prelude.{take, drop, Option}
use Rattle.std.specs.Io.KnownBytes.{Consumes, IsAtEnd}
use Rattle.line_io.specs.Lines.{NoFeed}
use Rattle.line_io.specs.declared.buffer.LineBuffer.{LineBuffer}
use Rattle.line_io.specs.declared.buffer.Line.{Line}
use Rattle.line_io.specs.declared.buffer.Line.TheVariants.{Whole, TooLong, End, Failed, Budget}
use Rattle.line_io.specs.Limits.{line_max}

-- the bytes that were taken and not yet answered
unfoldable pub pending : LineBuffer → List ℕ
pending b = take (b.end - b.start) (drop b.start b.bytes)

-- the line of the last answer where that was whole, else nothing
unfoldable pub line : LineBuffer → List ℕ
line b = take (b.line_end - b.line_start) (drop b.line_start b.bytes)

-- how many bytes were taken so far
abbrev pub taken : LineBuffer → ℕ
taken b = b.taken

-- how many bytes of the source count
abbrev pub max_bytes : LineBuffer → ℕ
max_bytes b = b.max

-- whether a read gave nothing, which is the source's end
abbrev pub is_ended : LineBuffer → Bool
is_ended b = b.ended

-- whether the last answer was an end, a fault or the budget
abbrev pub is_closed : LineBuffer → Bool
is_closed b = b.closed

-- `bytes` are the last that were taken: the part of them that lies within the first max_bytes taken
abbrev pub among_first : LineBuffer → List ℕ → List ℕ
among_first b bytes = take (length bytes - (taken b - max_bytes b)) bytes

-- The bytes are the line l, its line feed, and what is pending; the line feed is among the first max_bytes.
-- Or they are a last line, nonempty and without a line feed, and the source has ended.
abbrev pub IsFirstLine : List ℕ → List ℕ → LineBuffer → Type 0
IsFirstLine bytes l b = ((bytes ≡ l ++ 10 ∷ pending b) × (taken b ≤ max_bytes b + length (pending b)))
    ⊎ ((bytes ≡ l) × (0 < length l) × (is_ended b ≡ true) × (pending b ≡ []) × (taken b ≤ max_bytes b))

-- An answer. `bytes` were pending before the call or were taken in it, and `b` is the buffer after it.
abbrev pub Answers : Line → List ℕ → LineBuffer → Type 0
Answers (Whole n) bytes b = (length (line b) ≡ n) × (n ≤ line_max) × NoFeed (line b) × IsFirstLine bytes (line b) b
Answers TooLong bytes b = (line b ≡ []) × ((l : List ℕ) × (line_max < length l) × NoFeed l × IsFirstLine bytes l b)
Answers End bytes b = (line b ≡ []) × (is_ended b ≡ true) × (bytes ≡ []) × (taken b ≤ max_bytes b)
Answers Failed bytes b = (line b ≡ []) × (is_ended b ≡ false) × NoFeed bytes × (taken b ≤ max_bytes b)
Answers Budget bytes b = (line b ≡ []) × (is_ended b ≡ false) × (max_bytes b < taken b) × NoFeed (among_first b bytes)

-- the answers after which the buffer is closed
abbrev pub is_last : Line → Bool
is_last (Whole n) = false
is_last TooLong = false
is_last End = true
is_last Failed = true
is_last Budget = true

-- What a call took, and how it answers.
pub record Takes (answer : Line) (left left_now : Option (List ℕ)) (before now : LineBuffer) : Type 0 where
  -- those taken in the call
  pub bytes : List ℕ
  pub consumed : Consumes left left_now bytes
  pub counted : taken now ≡ taken before + length bytes
  pub answered : Answers answer (pending before ++ bytes) now
  -- exactly where the source has ended and nothing is there to answer
  pub end : (answer ≡ End) ↔ ((is_ended now ≡ true) × (pending before ++ bytes ≡ []))
  -- exactly where the source gave more than max_bytes, and no line ends among the first of these
  pub budget : (answer ≡ Budget) ↔ ((max_bytes now < taken now) × NoFeed (among_first now (pending before ++ bytes)))

-- where the buffer says that its source has ended, that source has nothing left
abbrev pub KnowsEnd : LineBuffer → Option (List ℕ) → Type 0
KnowsEnd b left = is_ended b ≡ true → IsAtEnd left
