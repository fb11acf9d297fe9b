use Rattle.std.proofs.Common.{List, ℕ, arith, ◌∙◌, ap, sym}
use Rattle.base64ct.specs.Encoding.{unpadded_encoding}
use Rattle.base64ct.proofs.Last.{whole_three}
use Rattle.base64ct.specs.Tables.{shaped}
use Rattle.base64ct.proofs.CountedReading.{last_answer}
use Rattle.base64ct.proofs.tables.compare_last.Goals as goal

pub returns-clause-answer : goal.returns-clause-answer
returns-clause-answer g c = λ odd.
    rw (
      c.bitand-3.ensures,
      c.bitand-2.ensures,
      c.bitand.ensures,
      c.same-first.ensures.answer,
      c.same-second.ensures.answer,
      c.same-third.ensures.answer,
      c.same-fourth.ensures.answer,
    )
    (last_answer g.C.SameByte.related (shaped (g.T.CodeTable.characters c.args.table.now) c.args.shape) c.args.last.now
    c.args.bytes.now c.fill_characters-block.result c.fill_bytes-whole.result c.encode_four-again.result c.args.zero
    (λ k. omega (arith, c.type_inv.bytes k)) (omega arith) (omega arith) odd (omega arith) c.requires.zero
    c.fill_characters-block.ensures c.fill_bytes-whole.ensures (omega arith) (omega arith)
    (c.encode_four-again.ensures.written
    ∙ ap (λ (x : List ℕ). unpadded_encoding (shaped (g.T.CodeTable.characters c.args.table.now) c.args.shape) x)
    (sym (whole_three c.fill_bytes-whole.result (omega arith)))))
