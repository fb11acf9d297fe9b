use Rattle.std.proofs.Common.{false}
use Rattle.base64ct.specs.Tables.{shaped}
use Rattle.base64ct.proofs.Values.{value_of-character}
use Rattle.base64ct.proofs.laws.look_spell.Goals as goal

pub returns : goal.returns
returns g c = λ t v lt.
    value_of-character (shaped (g.T.CodeTable.characters t) (record { padded = false; low_first = false })) v
    (g.met.T.CodeTable.lawful t) lt
