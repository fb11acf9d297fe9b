-- Laws over the definitions: the lines of a text that is meant, by the lines of the text that is there.
use Rattle.std.specs.Prelude.{◌≡◌, ℕ, ◌==◌, List, [], ◌∷◌, not, if◌then◌else◌}
use Rattle.std.specs.List.{filter, slice_split}
use Rattle.line_io.specs.Lines.{is_feed, lines, without_empty_last}
use Rattle.line_filter.specs.Forms.{is_passed_over, kept_lines, without_returns}

-- a line without a carriage return at its end
abbrev pub without_return : List ℕ → List ℕ
without_return [] = []
without_return (b ∷ []) = if b == 13 then [] else b ∷ []
without_return (b ∷ c ∷ line) = b ∷ without_return (c ∷ line)

-- each part but the last changed
abbrev pub each_but_last : (List ℕ → List ℕ) → List (List ℕ) → List (List ℕ)
each_but_last change [] = []
each_but_last change (last ∷ []) = last ∷ []
each_but_last change (part ∷ next ∷ more) = change part ∷ each_but_last change (next ∷ more)

-- Of the parts of a text between its line feeds each but the last loses a carriage return at its end: the last one isn't ended
-- by a line feed. `lines text` is `without_empty_last (slice_split is_feed text)`.
abbrev pub LinesWithoutReturns : Type 0
LinesWithoutReturns =
    (text : List ℕ)
    → lines (without_returns text) ≡ without_empty_last (each_but_last without_return (slice_split is_feed text))

-- The lines that are kept are those that aren't passed over, in their order.
abbrev pub LinesKept : Type 0
LinesKept = (text : List ℕ) → lines (kept_lines text) ≡ filter (λ line. not (is_passed_over line)) (lines text)
