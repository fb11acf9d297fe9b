-- What is still to be given of the commands of a text, by what was read before it.
use Rattle.std.specs.Prelude.{ℕ, List, [], ◌∷◌, ◌++◌, Option, None, Some}
use Rattle.std.specs.List.{slice_split}
use Rattle.line_io.specs.Lines.{is_feed, without_empty_last}
use Rattle.set_lines.specs.Sets.{parts_of, set_text, sets_of}
use Rattle.set_lines.specs.declared.sets.Part.{Part}
use Rattle.set_lines.specs.declared.sets.Part.TheVariants.{User, Text, More}
use Rattle.shadow_fields.specs.Fields.{first_field}

-- what the rest of a line adds to its command
abbrev pub line_rest : Part → List ℕ → List ℕ
line_rest User line = parts_of line
line_rest Text line = first_field line
line_rest More line = []

-- the same, and the lines after it
abbrev pub parts_rest : Part → List (List ℕ) → List ℕ
parts_rest part [] = []
parts_rest part (line ∷ more) = line_rest part line ++ 10 ∷ sets_of (without_empty_last more)

-- by the part of a line that was read last, if one was
abbrev pub rest : Option Part → List ℕ → List ℕ
rest None text = set_text text
rest (Some part) text = parts_rest part (slice_split is_feed text)

-- a byte, where one is given, and what follows
abbrev pub given_first : Option ℕ → List ℕ → List ℕ
given_first None more = more
given_first (Some b) more = b ∷ more
