-- What is read off a lent value, and off an iterator over pairs.
use Rattle.std.specs.Prelude.{ℕ, List, map}
use Rattle.pieces.specs.Characters.{comma, equals}
use Rattle.pieces.specs.Pieces.{pieces_at, pieces_left}
use Rattle.phc.specs.Grammar.{pair_of}
use Rattle.phc.specs.declared.value.Value.{Value}
use Rattle.phc.specs.declared.params.Iter.{Iter}

-- the text of a value
abbrev pub value_text : Value → List ℕ
value_text value = value.text.now

-- a name and the text of its value
abbrev pub pair_view : List ℕ × Value → List ℕ × List ℕ
pair_view pair = (pair.0, value_text pair.1)

-- the pairs that are left
abbrev pub pairs_left : Iter → List (List ℕ × List ℕ)
pairs_left iter = map pair_of (map (pieces_at equals) (pieces_left comma iter.left))
