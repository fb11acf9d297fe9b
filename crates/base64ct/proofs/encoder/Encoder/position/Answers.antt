use Rattle.std.proofs.Common.{take, arith}
use Rattle.std.proofs.lemmas.List.{length-take}
use Rattle.base64ct.proofs.Encoders.{at_position}
use Rattle.base64ct.proofs.encoder.Encoder.position.Goals as goal

pub returns : goal.returns
returns g c =
    let e = c.self.inside in
    let i = c.self.invariant in
    rw (← c.self.view_is) (at_position g.E.Alphabet.alphabet e.width e.ending e.output.now (take e.count e.waiting)
    e.position e.room _ (omega (arith, i.3)) (omega (arith, length-take e.count e.waiting, i.2)) i.0)
