use Rattle.std.proofs.Common.{◌≡◌, ℕ, ◌≤◌, length, take, min, refl, sym, ap, ◌∙◌, subst, arith}
use Rattle.std.proofs.lemmas.List.{length-take-le}
use Rattle.base64ct.specs.Blocks.{AskedAreGood}
use Rattle.base64ct.specs.Decoders.{left}
use Rattle.base64ct.proofs.Parts.{read_part, read_consumes}
use Rattle.base64ct.proofs.decoder.DecoderRead.read.Goals as goal

pub returns-in-Ok-clause-bytes : goal.returns-in-Ok-clause-bytes
returns-in-Ok-clause-bytes g c =
    let fits : length (take c.min-n.result c.args.buf.now) ≤ length (left g.E.Alphabet.alphabet c.args.self.now) =
    omega (
      arith,
      c.min-n.ensures,
      c.remaining_len.ensures.left,
      length-take-le c.min-n.result c.args.buf.now (omega (arith, c.min-n.ensures)),
    ) in
    read_consumes g.E.Alphabet.alphabet c.args.self.now c.decode_into.new.self c.args.buf.now c.decode_into.new.out
    c.min-n.result c.remaining_len.result c.min-n.ensures c.remaining_len.ensures.left (c.in-Ok.ensures.answer fits)

pub returns-in-Ok-clause-answer : goal.returns-in-Ok-clause-answer
returns-in-Ok-clause-answer g c =
    let fits : length (take c.min-n.result c.args.buf.now) ≤ length (left g.E.Alphabet.alphabet c.args.self.now) =
    omega (
      arith,
      c.min-n.ensures,
      c.remaining_len.ensures.left,
      length-take-le c.min-n.result c.args.buf.now (omega (arith, c.min-n.ensures)),
    ) in
    let same : c.min-n.result ≡ min (length c.args.buf.now) (length (left g.E.Alphabet.alphabet c.args.self.now)) =
    c.min-n.ensures ∙ ap (λ (k : ℕ). min (length c.args.buf.now) k) c.remaining_len.ensures.left in
    let part = read_part g.E.Alphabet.alphabet c.args.self.now c.decode_into.new.self c.args.buf.now
    c.decode_into.new.out c.min-n.result c.remaining_len.result c.min-n.ensures c.remaining_len.ensures.left
    (c.in-Ok.ensures.answer fits) in
    rw (← same) (refl, part.1, part.2)

pub returns-in-Err-clause-answer : goal.returns-in-Err-clause-answer
returns-in-Err-clause-answer g c =
    let count : length (take c.min-n.result c.args.buf.now) ≡ c.min-n.result =
    length-take-le c.min-n.result c.args.buf.now (omega (arith, c.min-n.ensures)) in
    let same : c.min-n.result ≡ min (length c.args.buf.now) (length (left g.E.Alphabet.alphabet c.args.self.now)) =
    c.min-n.ensures ∙ ap (λ (k : ℕ). min (length c.args.buf.now) k) c.remaining_len.ensures.left in
    let fits : length (take c.min-n.result c.args.buf.now) ≤ length (left g.E.Alphabet.alphabet c.args.self.now) =
    omega (arith, count, c.min-n.ensures, c.remaining_len.ensures.left) in
    let bad = c.in-Err.ensures.answer fits in (
      c.from.ensures,
      λ good.
          bad.1 (subst (λ (k : ℕ). AskedAreGood g.E.Alphabet.alphabet c.args.self.now.text c.args.self.now.read k)
          (sym (count ∙ same)) good),
      bad.2,
    )
