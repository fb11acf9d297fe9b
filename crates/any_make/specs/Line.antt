-- What a run that makes the text of one line did.
use Rattle.std.specs.Prelude.{◌≡◌, ◌⊎◌, ◌<◌, ◌≤◌, ◌||◌, ℕ, Bool, true, false, List, [], ◌∷◌, ◌++◌, length, nat_lt, Ok, Option}
use Rattle.std.specs.Io.KnownBytes.{Appends}
use Rattle.line_io.specs.Devices.{AppendsPrefix}
use Rattle.line_io.specs.Limits.{line_max}
use Rattle.line_io.specs.Lines.{NoFeed}
use Rattle.line_io.specs.Runs.{IsPrefix}
use Rattle.any_make.specs.Made.{IsMakeFault, made}
use Rattle.any_make.specs.declared.error.MakeFault.{MakeFault}
use Rattle.any_make.specs.declared.line.MakeEnd.{MakeEnd}
use Rattle.any_make.specs.declared.line.MakeEnd.TheVariants.{EmptyLine, LongLine, Made, NoLine, Refused, WriteFault}
use Rattle.any_make.specs.declared.scheme.MakeCost.{MakeCost}

-- the most bytes that are taken: those of the longest line, its line feed and one more
abbrev pub taken_max : ℕ
taken_max = 8194

-- some bytes begin with a line and its line feed; or they are one nonempty line without a line feed
abbrev pub IsFirstLine : List ℕ → List ℕ → Type 0
IsFirstLine held line =
    (length line ≤ line_max) × NoFeed line
    × (((rest : List ℕ) × (held ≡ line ++ 10 ∷ rest)) ⊎ ((held ≡ line) × (0 < length line)))

-- some bytes begin with more than a line may have and no line feed among them
abbrev pub HasLongLine : List ℕ → Type 0
HasLongLine held =
    (front : List ℕ) × (rest : List ℕ) × (held ≡ front ++ rest) × NoFeed front × (line_max < length front)

-- a line is a password: it has a byte, or one without a byte is taken too
abbrev pub is_password : Bool → List ℕ → Bool
is_password takes_empty line = takes_empty || nat_lt 0 (length line)

-- The table of outcomes. The source held `held`, of which `taken` was taken; `added` was added to the sink.
pub record MakeOutcome (c : MakeCost) (salt : List ℕ) (takes_empty : Bool) (end : MakeEnd) (held taken added : List ℕ) : Type 0 where
  -- whatever the source holds, few bytes of it are taken
  pub few : length taken ≤ taken_max
  -- the text of the first line, and a line feed
  pub done : end ≡ Made
      → (line : List ℕ) × (text : List ℕ) × IsFirstLine held line × (is_password takes_empty line ≡ true)
      × (made c line salt ≡ Ok text) × (added ≡ text ++ 10 ∷ [])
  -- the first line is a password of which no text is made, or memory was refused
  pub refused : (e : MakeFault) → end ≡ Refused e
      → (line : List ℕ) × IsFirstLine held line × (is_password takes_empty line ≡ true)
      × IsMakeFault c (made c line salt) e
  -- the first line is no password
  pub empty_line : end ≡ EmptyLine → (line : List ℕ) × IsFirstLine held line × (is_password takes_empty line ≡ false)
  -- there is no line, or it is too long
  pub no_line : end ≡ NoLine → held ≡ []
  pub long_line : end ≡ LongLine → HasLongLine held
  -- a write failed: what was written is the beginning of the text and the line feed
  pub write_fault : end ≡ WriteFault
      → (line : List ℕ) × (text : List ℕ) × IsFirstLine held line × (is_password takes_empty line ≡ true)
      × (made c line salt ≡ Ok text) × IsPrefix added (text ++ 10 ∷ [])
  -- otherwise nothing is written
  pub nothing : (end ≡ Made) ⊎ (end ≡ WriteFault) ⊎ (added ≡ [])

-- what the call that makes a text of a line and writes it did to the bytes that a sink took
abbrev pub WritesText : MakeCost → Bool → List ℕ → List ℕ → Option (List ℕ) → Option (List ℕ) → MakeEnd → Type 0
WritesText c takes_empty line salt old new Made =
    (text : List ℕ) × (is_password takes_empty line ≡ true) × (made c line salt ≡ Ok text)
    × Appends old new (text ++ 10 ∷ [])
WritesText c takes_empty line salt old new WriteFault =
    (text : List ℕ) × (is_password takes_empty line ≡ true) × (made c line salt ≡ Ok text)
    × AppendsPrefix old new (text ++ 10 ∷ [])
WritesText c takes_empty line salt old new (Refused e) =
    (is_password takes_empty line ≡ true) × IsMakeFault c (made c line salt) e × Appends old new []
WritesText c takes_empty line salt old new EmptyLine = (is_password takes_empty line ≡ false) × Appends old new []
WritesText c takes_empty line salt old new end = ⊥
