use Rattle.std.proofs.Common.{◌∙◌, sym, arith, refl}
use Rattle.std.proofs.lemmas.Bool.{false≢true}
use Rattle.base64ct.specs.Encoding.{IsMisaligned}
use Rattle.base64ct.proofs.Padding.{decoded_end, refused_end}
use Rattle.base64ct.proofs.DecodingLaws.{decoding-None}
use Rattle.base64ct.proofs.DecodingAnswers.{decoding-misaligned, decoding_read}
use Rattle.base64ct.proofs.encoding.Encoding.decode_into.Goals as goal
use Rattle.base64ct.proofs.encoding.Encoding.decode_into.Goals.{else-padded-via-then-padded+else-src-ne0}
use Rattle.base64ct.proofs.encoding.Encoding.decode_into.Goals.{else-padded-via-else-padded}

pub returns-then-src-ne0-clause-decoded : goal.returns-then-src-ne0-clause-decoded
returns-then-src-ne0-clause-decoded g c = λ room. (
  refl,
  decoding-misaligned g.Self.Alphabet.alphabet c.args.src.now
      (sym c.padded.ensures ∙ c.if-padded.true, c.if-src-ne0.true),
)

pub returns-then-decode_unpadded-clause-answer : goal.returns-then-decode_unpadded-clause-answer
returns-then-decode_unpadded-clause-answer g c = λ not room.
    let a = g.Self.Alphabet.alphabet in
    rw c.bytes_of-len.ensures
    (decoded_end a c.args.src.now c.decode_unpadded.new.dst c.padding_of-padding.result g.met.Self.Alphabet.lawful
    c.padding_of-padding.ensures.count (λ k. omega (arith, c.type_inv.dst k)) not
    (c.decode_unpadded.ensures.read c.if-decode_unpadded.true))

pub returns-then-decode_unpadded-clause-decoded : goal.returns-then-decode_unpadded-clause-decoded
returns-then-decode_unpadded-clause-decoded g c = λ room.
    let not : IsMisaligned g.Self.Alphabet.alphabet c.args.src.now → ⊥ = λ wrong. elim c.else-padded.branch [
      | else-padded-via-then-padded+else-src-ne0 w ↦ wrong.1 w.if-src-ne0.false
      | else-padded-via-else-padded w ↦ false≢true (sym w.if-padded.false ∙ c.padded.ensures ∙ wrong.0)
    ] in
    let answer = returns-then-decode_unpadded-clause-answer g c not room in (
      answer.0,
      omega arith,
      decoding_read g.Self.Alphabet.alphabet c.args.src.now c.decode_unpadded.new.dst _ g.met.Self.Alphabet.lawful
          (λ k. omega (arith, c.type_inv.dst k)) answer,
    )

pub returns-else-decode_unpadded-clause-answer : goal.returns-else-decode_unpadded-clause-answer
returns-else-decode_unpadded-clause-answer g c = λ not room.
    let a = g.Self.Alphabet.alphabet in (
      refl,
      refused_end a c.args.src.now c.padding_of-padding.result _ g.met.Self.Alphabet.lawful
          c.padding_of-padding.ensures.count c.if-decode_unpadded.false c.decode_unpadded.ensures.accepted,
    )

pub returns-else-decode_unpadded-clause-decoded : goal.returns-else-decode_unpadded-clause-decoded
returns-else-decode_unpadded-clause-decoded g c = λ room.
    let not : IsMisaligned g.Self.Alphabet.alphabet c.args.src.now → ⊥ = λ wrong. elim c.else-padded.branch [
      | else-padded-via-then-padded+else-src-ne0 w ↦ wrong.1 w.if-src-ne0.false
      | else-padded-via-else-padded w ↦ false≢true (sym w.if-padded.false ∙ c.padded.ensures ∙ wrong.0)
    ] in
    let answer = returns-else-decode_unpadded-clause-answer g c not room in
    (refl, decoding-None g.Self.Alphabet.alphabet c.args.src.now answer.1)
