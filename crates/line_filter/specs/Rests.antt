-- What is still to be given of a text, by what was read before it.
use Rattle.std.specs.Prelude.{ℕ, Bool, true, false, List, [], ◌∷◌, ◌++◌}
use Rattle.std.specs.List.{slice_split}
use Rattle.line_io.specs.Lines.{is_feed}
use Rattle.line_filter.specs.Forms.{kept_lines, kept_parts, without_mark, without_returns}
use Rattle.line_filter.specs.declared.sieve.Mark.{Mark}
use Rattle.line_filter.specs.declared.sieve.Mark.TheVariants.{Due, First, Second, Past}
use Rattle.line_filter.specs.declared.sieve.Place.{Place}
use Rattle.line_filter.specs.declared.sieve.Place.TheVariants.{Start, Inside, Passed}

-- a byte order mark, of which the bytes before were read
abbrev pub after_mark : Mark → List ℕ → List ℕ
after_mark Due text = without_mark text
after_mark First text = without_mark (239 ∷ text)
after_mark Second text = without_mark (239 ∷ 187 ∷ text)
after_mark Past text = text

-- a carriage return that was read last, and is given or not by what follows
abbrev pub after_return : Bool → List ℕ → List ℕ
after_return true text = 13 ∷ text
after_return false text = text

-- carriage returns, of which one was read last or not
abbrev pub unix_rest : Bool → Bool → List ℕ → List ℕ
unix_rest true has_return text = without_returns (after_return has_return text)
unix_rest false has_return text = text

-- the parts after the beginning of a line that is kept
abbrev pub inside_parts : List (List ℕ) → List ℕ
inside_parts [] = []
inside_parts (last ∷ []) = last
inside_parts (part ∷ next ∷ more) = part ++ 10 ∷ kept_parts (next ∷ more)

-- the parts after the beginning of a line that is passed over
abbrev pub passed_parts : List (List ℕ) → List ℕ
passed_parts [] = []
passed_parts (last ∷ []) = []
passed_parts (part ∷ next ∷ more) = kept_parts (next ∷ more)

-- lines, by where in a line the text before ended
abbrev pub kept_rest : Bool → Place → List ℕ → List ℕ
kept_rest false place text = text
kept_rest true Start text = kept_lines text
kept_rest true Inside text = inside_parts (slice_split is_feed text)
kept_rest true Passed text = passed_parts (slice_split is_feed text)

-- a byte, where it is given, and what follows
abbrev pub given_first : Bool → ℕ → List ℕ → List ℕ
given_first true b rest = b ∷ rest
given_first false b rest = rest

-- how many bytes of a mark were read, and of carriage returns
abbrev pub mark_size : Mark → ℕ
mark_size Due = 0
mark_size First = 1
mark_size Second = 2
mark_size Past = 0

abbrev pub return_size : Bool → ℕ
return_size true = 1
return_size false = 0
