-- What the parts of a text show.
use Rattle.std.specs.Prelude.{ℕ, List, [], ◌∷◌, Option, Some, None}
use Rattle.pieces.specs.Characters.{dollar}
use Rattle.pieces.specs.Pieces.{lent, pieces_left}
use Rattle.phc.specs.Grammar as grammar
use Rattle.phc.specs.declared.layout.Cut.{Cut}
use Rattle.phc.specs.declared.layout.FormParts.{FormParts}

-- a piece that was cut off and the pieces behind it, where there is one
abbrev pub pieces_of : Option Cut → List (List ℕ)
pieces_of None = []
pieces_of (Some cut) = cut.piece.now ∷ pieces_left dollar cut.others

-- the parts as lists
abbrev pub parts_of : FormParts → grammar.Layout
parts_of l = record {
  version = lent l.version;
  params = lent l.params;
  salt = lent l.salt;
  hash = lent l.hash;
  rest = pieces_left dollar l.rest;
}
