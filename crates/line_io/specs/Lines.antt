-- The lines of a text, and the part of it that is whole lines.
-- A line ends with a line feed (10), which is no part of it; what stands behind the last one is a line too where it is
-- nonempty. POSIX.1-2017 (Base Definitions) counts the line feed to the line (3.206) and calls what stands behind the
-- last one an incomplete line (3.195): the text is cut at the same places. A carriage return is an ordinary byte.
use Rattle.std.specs.Prelude.{◌≡◌, ℕ, Bool, false, List, [], ◌∷◌, length, ◌==◌, if◌then◌else◌}
use Rattle.std.specs.List.{slice_split, list_any}

-- a line feed
abbrev pub is_feed : ℕ → Bool
is_feed b = b == 10

-- no byte is a line feed
abbrev pub NoFeed : List ℕ → Type 0
NoFeed text = list_any is_feed text ≡ false

-- all parts, but for a last one that is empty
abbrev pub without_empty_last : List (List ℕ) → List (List ℕ)
without_empty_last [] = []
without_empty_last (part ∷ []) = if length part == 0 then [] else part ∷ []
without_empty_last (part ∷ next ∷ more) = part ∷ without_empty_last (next ∷ more)

-- the text split at every line feed; an empty last part is no line
abbrev pub lines : List ℕ → List (List ℕ)
lines text = without_empty_last (slice_split is_feed text)

-- the text up to and with its last line feed, or nothing where it has none
abbrev pub whole_lines : List ℕ → List ℕ
whole_lines [] = []
whole_lines (b ∷ text) = if list_any is_feed (b ∷ text) then b ∷ whole_lines text else []
