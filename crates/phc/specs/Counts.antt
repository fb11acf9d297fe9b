-- How often the fields of a text are looked up in the alphabet, and how often the decoder compares.
use Rattle.std.specs.Prelude.{ℕ, ◌+◌, List, Option, Some, None, drop}
use Rattle.base64ct.specs.Counts.{field_looks}
use Rattle.pieces.specs.Characters.{dollar}
use Rattle.pieces.specs.Pieces.{pieces_at}
use Rattle.phc.specs.Grammar.{Layout, layout}

-- the look-ups of a field that may be absent
abbrev pub looks_of : Option (List ℕ) → ℕ
looks_of None = 0
looks_of (Some field) = field_looks field

-- the comparisons of a field that may be absent
abbrev pub comparisons_of : Option (List ℕ) → ℕ
comparisons_of None = 0
comparisons_of (Some field) = 4

-- the parts of a text behind its identifier
abbrev pub layout_of_text : List ℕ → Layout
layout_of_text s = layout (drop 2 (pieces_at dollar s))

-- the look-ups of the salt and the hash of these parts
abbrev pub layout_looks : Layout → ℕ
layout_looks l = looks_of l.salt + looks_of l.hash

-- the comparisons of the salt and the hash of these parts
abbrev pub layout_comparisons : Layout → ℕ
layout_comparisons l = comparisons_of l.salt + comparisons_of l.hash
