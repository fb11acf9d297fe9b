-- Laws over the definitions.
use Rattle.std.specs.Prelude.{◌≡◌, ℕ, List, Ok}
use Rattle.application_texts.specs.Makers.{read_by}
use Rattle.application_texts.specs.declared.makers.Maker.{Maker}

-- what a maker's text is read as is in the one spelling: it is read as itself
abbrev pub MakersConvertToThemselves : Type 0
MakersConvertToThemselves = (maker : Maker) (text stored : List ℕ) → read_by maker text ≡ Ok stored → read_by maker stored ≡ Ok stored
