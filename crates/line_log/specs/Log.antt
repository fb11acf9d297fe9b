-- What a file of lines stands for.
--
-- The file is a header line, and then lines. A line counts where it is open (its first byte is `s`) and whole (a line
-- feed ends it), and where all lines before it count. Behind the last of them stands one closed byte, `#`.
use Rattle.std.specs.Prelude.{◌≡◌, ◌⊎◌, ℕ, ◌+◌, ◌<◌, ◌≤◌, ◌^◌, Bool, true, false, List, [], ◌∷◌, ◌++◌, length, drop, not, nat_le, ◌||◌, ◌&&◌, if◌then◌else◌, ◌==◌}
use Rattle.std.specs.List.{slice_split}
use Rattle.line_io.specs.Lines.{is_feed, NoFeed}
use Rattle.line_log.specs.Device.{Only}
use Rattle.line_log.specs.declared.log.LineLog.{LineLog}

-- `#pwstore 1` and a line feed
abbrev pub header : List ℕ
header = 35 ∷ 112 ∷ 119 ∷ 115 ∷ 116 ∷ 111 ∷ 114 ∷ 101 ∷ 32 ∷ 49 ∷ 10 ∷ []

-- the most bytes of a group of lines that are added at once
abbrev pub group_max : ℕ
group_max = 16384

-- the most bytes of a file that lines are added to
abbrev pub file_max : ℕ
file_max = 2 ^ 28

-- ---- lines

-- the first byte is `s`
abbrev pub is_open : List ℕ → Bool
is_open [] = false
is_open (gate ∷ rest) = gate == 115

-- an open line, without its line feed
abbrev pub IsLine : List ℕ → Type 0
IsLine line = (is_open line ≡ true) × NoFeed line

-- the parts that a line feed ends
abbrev pub all_but_last : List (List ℕ) → List (List ℕ)
all_but_last [] = []
all_but_last (part ∷ []) = []
all_but_last (part ∷ next ∷ more) = part ∷ all_but_last (next ∷ more)

-- those before the first that isn't open
abbrev pub open_front : List (List ℕ) → List (List ℕ)
open_front [] = []
open_front (line ∷ more) = if is_open line then line ∷ open_front more else []

-- the lines that count, of what stands behind the header
abbrev pub open_lines : List ℕ → List (List ℕ)
open_lines text = open_front (all_but_last (slice_split is_feed text))

-- each line with its line feed
abbrev pub joined : List (List ℕ) → List ℕ
joined [] = []
joined (line ∷ more) = line ++ 10 ∷ joined more

-- the text is open lines, each with its line feed, and nothing else
abbrev pub AreWhole : List ℕ → Type 0
AreWhole text = text ≡ joined (open_lines text)

-- lines that are added at once
pub record IsGroup (text : List ℕ) : Type 0 where
  pub whole : AreWhole text
  pub some : 0 < length text
  pub short : length text ≤ group_max

-- ---- files

-- the lines that count in a file
abbrev pub recovered : List ℕ → List (List ℕ)
recovered file = open_lines (drop 11 file)

-- the header and the lines
abbrev pub written : List (List ℕ) → List ℕ
written lines = header ++ joined lines

-- and behind them the closed byte
abbrev pub at_rest : List (List ℕ) → List ℕ
at_rest lines = written lines ++ 35 ∷ []

-- The file is a header, whole open lines and a closed byte, all of it on the disk.
pub record IsSettled {D : Type 0} (seen : D → List ℕ) (may_leave : D → List ℕ → Type 0) (log : LineLog D) : Type 0 where
  pub file : seen log.device ≡ at_rest (recovered (seen log.device))
  pub place : log.end ≡ length (written (recovered (seen log.device)))
  pub durable : Only (seen log.device) (may_leave log.device)

-- What a run can leave behind the lines: nothing, one byte, or a closed byte and what was to be a group and the closed
-- byte behind it.
pub record IsEnd (end : List ℕ) : Type 0 where
  pub shut : (is_open end ≡ false) ⊎ (length end ≤ 1)
  pub short : length end ≤ group_max + 1

-- the same as a test
abbrev pub is_end : List ℕ → Bool
is_end end = nat_le (length end) 1 || (not (is_open end) && nat_le (length end) (group_max + 1))

-- A run can have left this file, and these are its lines.
pub record Stands (lines : List (List ℕ)) (file : List ℕ) : Type 0 where
  pub end : List ℕ
  pub split : file ≡ written lines ++ end
  pub ends : IsEnd end
  pub counts : recovered file ≡ lines

-- The file stands for the lines with the group, or without any of it.
abbrev pub IsBeforeOrAfter : List (List ℕ) → List (List ℕ) → List ℕ → Type 0
IsBeforeOrAfter lines group file = Stands lines file ⊎ Stands (lines ++ group) file
