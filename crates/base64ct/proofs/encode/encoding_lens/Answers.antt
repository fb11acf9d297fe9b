use Rattle.std.proofs.Common.{◌+◌, ◌*◌, ◌/◌, true, false, length, ◌∙◌, sym, arith}
use Rattle.base64ct.proofs.Padding.{padding_count_of, length-encoding}
use Rattle.base64ct.proofs.encode.encoding_lens.Goals as goal

pub returns-then-padded-clause-whole : goal.returns-then-padded-clause-whole
returns-then-padded-clause-whole g c =
    let a = g.A.Alphabet.alphabet in
    omega (
      arith,
      padding_count_of a.padded true ((4 * length c.args.src.now + 2) / 3)
          (sym c.padded.ensures ∙ c.if-padded.true),
      length-encoding a c.args.src.now (λ k. omega (arith, c.type_inv.src k)),
    )

pub returns-else-padded-clause-whole : goal.returns-else-padded-clause-whole
returns-else-padded-clause-whole g c =
    let a = g.A.Alphabet.alphabet in
    omega (
      arith,
      padding_count_of a.padded false ((4 * length c.args.src.now + 2) / 3)
          (sym c.padded.ensures ∙ c.if-padded.false),
      length-encoding a c.args.src.now (λ k. omega (arith, c.type_inv.src k)),
    )
