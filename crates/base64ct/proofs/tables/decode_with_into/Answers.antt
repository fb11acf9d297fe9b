use Rattle.std.proofs.Common.{length, refl, ◌∙◌, sym, arith}
use Rattle.base64ct.specs.Encoding.{IsMisaligned}
use Rattle.base64ct.specs.Tables.{shaped}
use Rattle.base64ct.proofs.Encodings.{below-take}
use Rattle.base64ct.proofs.DecodingLaws.{decoding-None, decoding_is}
use Rattle.base64ct.proofs.DecodingAnswers.{decoding-misaligned}
use Rattle.base64ct.proofs.CountedAnswers.{asked_characters, comparisons, table_found, table_refused, found_encoding, found_none}
use Rattle.base64ct.proofs.tables.decode_with_into.Goals as goal

pub returns-then-src-ne0-clause-decoded : goal.returns-then-src-ne0-clause-decoded
returns-then-src-ne0-clause-decoded g c = λ equal room.
    (refl, decoding-misaligned _ _ (c.if-shape.true, c.if-src-ne0.true))

pub returns-then-is_faultless-clause-answer : goal.returns-then-is_faultless-clause-answer
returns-then-is_faultless-clause-answer g c = λ ok room.
    table_found g.C.SameByte.related c.args.shape (g.T.CodeTable.characters c.args.table.now) _ _ c.args.src.now
    c.read_stem-fault.new.dst c.padding_under-padding.result _ c.read_stem-fault.result c.compare_stem-passed.result
    (g.met.T.CodeTable.lawful c.args.table.now) c.spell-zero.ensures.characters c.read_stem-fault.ensures.characters
    c.padding_under-padding.ensures.count ok c.bytes_of-len.ensures (omega arith) c.read_stem-fault.ensures.read
    c.compare_stem-passed.ensures.answer (sym c.is_faultless.ensures ∙ c.if-is_faultless.true)

pub returns-then-is_faultless-clause-equal : goal.returns-then-is_faultless-clause-equal
returns-then-is_faultless-clause-equal g c = λ equal ok room.
    found_encoding g.C.SameByte.related (shaped (g.T.CodeTable.characters c.args.table.now) c.args.shape) c.args.src.now
    c.read_stem-fault.new.dst _ (g.met.T.CodeTable.lawful c.args.table.now) c.read_stem-fault.ensures.bytes
    (omega arith) ok equal (returns-then-is_faultless-clause-answer g c ok room)

pub returns-then-is_faultless-clause-decoded : goal.returns-then-is_faultless-clause-decoded
returns-then-is_faultless-clause-decoded g c = λ equal room.
    let a = shaped (g.T.CodeTable.characters c.args.table.now) c.args.shape in
    let ok : IsMisaligned a c.args.src.now → ⊥ = λ wrong. grind (arith, c.else-shape.branch, wrong) in
    decoding_is a c.args.src.now _ (g.met.T.CodeTable.lawful c.args.table.now)
    (below-take 256 _ c.read_stem-fault.new.dst (omega arith) c.read_stem-fault.ensures.bytes)
    (returns-then-is_faultless-clause-equal g c equal ok room)

pub returns-then-is_faultless-clause-sames : goal.returns-then-is_faultless-clause-sames
returns-then-is_faultless-clause-sames g c =
    let a = shaped (g.T.CodeTable.characters c.args.table.now) c.args.shape in
    let ok : IsMisaligned a c.args.src.now → ⊥ = λ wrong. grind (arith, c.else-shape.branch, wrong) in
    c.compare_stem-passed.ensures.sames
    ∙ rw (comparisons a c.args.src.now _ _ (length c.args.dst.now) c.padding_under-padding.ensures.count
    c.bytes_of-len.ensures (omega arith) ok) refl

pub returns-else-is_faultless-clause-answer : goal.returns-else-is_faultless-clause-answer
returns-else-is_faultless-clause-answer g c = λ ok room. (
  refl,
  table_refused g.C.SameByte.related c.args.shape (g.T.CodeTable.characters c.args.table.now) _ _ c.args.src.now
      c.read_stem-fault.new.dst c.padding_under-padding.result _ c.read_stem-fault.result c.compare_stem-passed.result
      (g.met.T.CodeTable.lawful c.args.table.now) c.spell-zero.ensures.characters
      c.read_stem-fault.ensures.characters c.padding_under-padding.ensures.count ok c.bytes_of-len.ensures
      (omega arith) c.read_stem-fault.ensures.read c.read_stem-fault.ensures.accepted
      c.compare_stem-passed.ensures.answer c.compare_stem-passed.ensures.empty
      (sym c.is_faultless.ensures ∙ c.if-is_faultless.false),
)

pub returns-else-is_faultless-clause-equal : goal.returns-else-is_faultless-clause-equal
returns-else-is_faultless-clause-equal g c = λ equal ok room. (
  refl,
  found_none g.C.SameByte.related (shaped (g.T.CodeTable.characters c.args.table.now) c.args.shape) c.args.src.now
      (g.met.T.CodeTable.lawful c.args.table.now) equal (returns-else-is_faultless-clause-answer g c ok room).1,
)

pub returns-else-is_faultless-clause-decoded : goal.returns-else-is_faultless-clause-decoded
returns-else-is_faultless-clause-decoded g c = λ equal room.
    let a = shaped (g.T.CodeTable.characters c.args.table.now) c.args.shape in
    let ok : IsMisaligned a c.args.src.now → ⊥ = λ wrong. grind (arith, c.else-shape.branch, wrong) in
    (refl, decoding-None a c.args.src.now (returns-else-is_faultless-clause-equal g c equal ok room).1)

pub returns-else-is_faultless-clause-sames : goal.returns-else-is_faultless-clause-sames
returns-else-is_faultless-clause-sames g c =
    let a = shaped (g.T.CodeTable.characters c.args.table.now) c.args.shape in
    let ok : IsMisaligned a c.args.src.now → ⊥ = λ wrong. grind (arith, c.else-shape.branch, wrong) in
    c.compare_stem-passed.ensures.sames
    ∙ rw (comparisons a c.args.src.now _ _ (length c.args.dst.now) c.padding_under-padding.ensures.count
    c.bytes_of-len.ensures (omega arith) ok) refl

pub returns-then-is_faultless-clause-spells : goal.returns-then-is_faultless-clause-spells
returns-then-is_faultless-clause-spells g c =
    let a = shaped (g.T.CodeTable.characters c.args.table.now) c.args.shape in
    let ok : IsMisaligned a c.args.src.now → ⊥ = λ wrong. grind (arith, c.else-shape.branch, wrong) in
    let asked = asked_characters a c.args.src.now _ _ (length c.args.dst.now) c.padding_under-padding.ensures.count
    c.bytes_of-len.ensures (omega arith) ok in
    omega (
      arith,
      asked,
      c.compare_stem-passed.ensures.spells,
      c.read_stem-fault.ensures.spells,
      c.spell-zero.ensures.spells,
    )

pub returns-else-is_faultless-clause-spells : goal.returns-else-is_faultless-clause-spells
returns-else-is_faultless-clause-spells g c =
    let a = shaped (g.T.CodeTable.characters c.args.table.now) c.args.shape in
    let ok : IsMisaligned a c.args.src.now → ⊥ = λ wrong. grind (arith, c.else-shape.branch, wrong) in
    let asked = asked_characters a c.args.src.now _ _ (length c.args.dst.now) c.padding_under-padding.ensures.count
    c.bytes_of-len.ensures (omega arith) ok in
    omega (
      arith,
      asked,
      c.compare_stem-passed.ensures.spells,
      c.read_stem-fault.ensures.spells,
      c.spell-zero.ensures.spells,
    )
