use Rattle.std.proofs.Common.{take, arith, ◌∙◌, sym}
use Rattle.std.proofs.lemmas.List.{nil_from_length, length-take-le}
use Rattle.base64ct.proofs.Ends.{ends_only}
use Rattle.base64ct.proofs.decoder.Decoder.new_wrapped.Goals as goal

pub returns-then-body-eq0-clause-answer : goal.returns-then-body-eq0-clause-answer
returns-then-body-eq0-clause-answer g c = λ not line.
    absurd (not (ends_only c.args.input.now
    (sym c.body_len.ensures.body
    ∙ nil_from_length (take c.body_len.result c.args.input.now)
    (omega (
      arith,
      c.if-body-eq0.true,
      c.body_len.ensures.within,
      length-take-le c.body_len.result c.args.input.now c.body_len.ensures.within,
    )))))
