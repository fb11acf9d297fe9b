-- How many lines of a text are passed over: those that are empty or comments.
use Rattle.std.specs.Prelude.{◌≡◌, ℕ, ◌+◌, ◌-◌, ◌^◌, ◌≤◌, ◌<◌, Bool, true, false, ◌&&◌, ◌||◌, ◌==◌, List, [], ◌∷◌, ◌++◌, codes, decimal, length, min, slice_index, if◌then◌else◌}
use Rattle.std.specs.List.{filter}
use Rattle.line_io.specs.Lines.{is_feed, lines}
use Rattle.line_filter.specs.Forms.{is_passed_over}
use Rattle.line_filter.specs.declared.passing.Passing.{Passing}

-- the lines that a file of htpasswd(1) has beside its users: they are empty, or begin with `#`
abbrev pub count_passed_over : List ℕ → ℕ
count_passed_over text = length (filter is_passed_over (lines text))

-- ---- by what was read of it

-- such a line begins with this byte: its line feed (10), or `#` (35)
abbrev pub begins_passed : ℕ → Bool
begins_passed b = (b == 10) || (b == 35)

-- such lines that begin in a text, which goes on at the beginning of a line or within one
abbrev pub passed_from : Bool → List ℕ → ℕ
passed_from at_start [] = 0
passed_from at_start (b ∷ text) = (if at_start && begins_passed b then 1 else 0) + passed_from (is_feed b) text

-- none of the bytes after those at these places is the first of such a line
abbrev pub NoneBegins : List ℕ → ℕ → ℕ → Type 0
NoneBegins bytes from to =
    (k : ℕ) → from ≤ k → k < to → is_feed (slice_index bytes k) ≡ true → begins_passed (slice_index bytes (k + 1)) ≡ false

-- those that began so far, and those of the text that follows; the count stays at the greatest number of its type
unfoldable pub passed_with : Passing → List ℕ → ℕ
passed_with s text = min (s.count + passed_from s.at_start text) (2 ^ 64 - 1)

-- ---- in words

-- so many lines; nothing where there is none
abbrev pub passed_message : ℕ → List ℕ
passed_message n =
    if n == 0 then [] else if n == 1 then codes "1 line is empty or begins with #"
    else decimal n ++ codes " lines are empty or begin with #"
