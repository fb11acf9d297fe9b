use Rattle.std.proofs.Common.{◌∙◌, sym}
use Rattle.std.proofs.lemmas.Bool.{false≢true}
use Rattle.base64ct.specs.Encoding.{IsMisaligned}
use Rattle.base64ct.proofs.Padding.{lenient_found, lenient_refused}
use Rattle.base64ct.proofs.in_place.decode_within.Goals as goal
use Rattle.base64ct.proofs.in_place.decode_within.Goals.{else-padded-via-then-padded+else-buf-ne0}
use Rattle.base64ct.proofs.in_place.decode_within.Goals.{else-padded-via-else-padded}

pub returns-then-read_in_place-clause-answer : goal.returns-then-read_in_place-clause-answer
returns-then-read_in_place-clause-answer g c =
    let a = g.A.Alphabet.alphabet in
    let not : IsMisaligned a c.args.buf.now → ⊥ = λ wrong. elim c.else-padded.branch [
      | else-padded-via-then-padded+else-buf-ne0 w ↦ wrong.1 w.if-buf-ne0.false
      | else-padded-via-else-padded w ↦ false≢true (sym w.if-padded.false ∙ c.padded.ensures ∙ wrong.0)
    ] in
    rw c.bytes_of.ensures (lenient_found a c.args.buf.now c.read_in_place.new.buf c.padding_of.result _
    g.met.A.Alphabet.lawful c.padding_of.ensures.count not (c.read_in_place.ensures.read c.if-read_in_place.true))

pub returns-else-read_in_place-clause-answer : goal.returns-else-read_in_place-clause-answer
returns-else-read_in_place-clause-answer g c =
    let a = g.A.Alphabet.alphabet in
    lenient_refused a c.args.buf.now c.padding_of.result _ g.met.A.Alphabet.lawful c.padding_of.ensures.count
    c.if-read_in_place.false c.read_in_place.ensures.accepted
