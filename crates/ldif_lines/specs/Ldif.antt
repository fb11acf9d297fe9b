-- A dump of a directory in LDIF (RFC 2849), as lines of a user, a colon and a stored text.
use Rattle.std.specs.Prelude.{ℕ, Bool, false, ◌==◌, List, [], ◌∷◌, ◌++◌, drop, map, take, if◌then◌else◌}
use Rattle.std.specs.List.{flat_map}
use Rattle.line_io.specs.Lines.{lines}
use Rattle.ldif_lines.specs.Entries.{entries, entry_rows}
use Rattle.ldif_lines.specs.Limits.{line_most}

-- ---- folded lines

abbrev pub begins_with_space : List ℕ → Bool
begins_with_space [] = false
begins_with_space (b ∷ line) = b == 32

-- A line that isn't empty goes on in the next one, where that begins with a space, which isn't part of the line (RFC 2849, note 2).
abbrev pub with_next : List ℕ → List (List ℕ) → List (List ℕ)
with_next line [] = line ∷ []
with_next [] (next ∷ more) = [] ∷ next ∷ more
with_next (b ∷ line) (next ∷ more) =
    if begins_with_space next then (b ∷ line ++ drop 1 next) ∷ more else (b ∷ line) ∷ next ∷ more

abbrev pub unfolded : List (List ℕ) → List (List ℕ)
unfolded [] = []
unfolded (line ∷ more) = with_next line (unfolded more)

-- ---- a dump

-- of a line so many bytes count
abbrev pub clipped : List ℕ → List ℕ
clipped line = take line_most line

-- the lines of a dump, whose folds are undone
abbrev pub dump_lines : List ℕ → List (List ℕ)
dump_lines text = map clipped (unfolded (lines text))

-- the lines of users and texts of a dump
unfoldable pub dump_text : List ℕ → List ℕ
dump_text text = flat_map entry_rows (entries (dump_lines text))
