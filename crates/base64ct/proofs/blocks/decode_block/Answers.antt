use Rattle.std.proofs.Common.{◌∙◌, sym}
use Rattle.base64ct.proofs.Reading.{fault_from_values, unpadded_from_values, bytes_from_values}
use Rattle.base64ct.proofs.blocks.decode_block.Goals as goal

pub returns-then-low_first-clause-fault : goal.returns-then-low_first-clause-fault
returns-then-low_first-clause-fault g c =
    fault_from_values g.A.Alphabet.alphabet c.args.c c.args.d c.args.e c.args.f c.value_byte-v.result
    c.value_byte-w.result c.value_byte-x.result c.value_byte-y.result g.met.A.Alphabet.lawful
    c.value_byte-v.ensures c.value_byte-w.ensures c.value_byte-x.ensures c.value_byte-y.ensures

pub returns-then-low_first-clause-bytes : goal.returns-then-low_first-clause-bytes
returns-then-low_first-clause-bytes g c =
    unpadded_from_values g.A.Alphabet.alphabet c.args.c c.args.d c.args.e c.args.f c.value_byte-v.result
    c.value_byte-w.result c.value_byte-x.result c.value_byte-y.result _ _ g.met.A.Alphabet.lawful
    c.value_byte-v.ensures c.value_byte-w.ensures c.value_byte-x.ensures c.value_byte-y.ensures
    (sym c.if-low_first.true ∙ c.low_first.ensures) c.bytes_low-bytes.ensures

pub returns-else-low_first-clause-fault : goal.returns-else-low_first-clause-fault
returns-else-low_first-clause-fault g c =
    fault_from_values g.A.Alphabet.alphabet c.args.c c.args.d c.args.e c.args.f c.value_byte-v.result
    c.value_byte-w.result c.value_byte-x.result c.value_byte-y.result g.met.A.Alphabet.lawful
    c.value_byte-v.ensures c.value_byte-w.ensures c.value_byte-x.ensures c.value_byte-y.ensures

pub returns-else-low_first-clause-bytes : goal.returns-else-low_first-clause-bytes
returns-else-low_first-clause-bytes g c =
    unpadded_from_values g.A.Alphabet.alphabet c.args.c c.args.d c.args.e c.args.f c.value_byte-v.result
    c.value_byte-w.result c.value_byte-x.result c.value_byte-y.result _ _ g.met.A.Alphabet.lawful
    c.value_byte-v.ensures c.value_byte-w.ensures c.value_byte-x.ensures c.value_byte-y.ensures
    (sym c.if-low_first.false ∙ c.low_first.ensures) c.bytes_high-bytes.ensures

pub returns-then-low_first-clause-len : goal.returns-then-low_first-clause-len
returns-then-low_first-clause-len g c =
    (bytes_from_values c.value_byte-v.result c.value_byte-w.result c.value_byte-x.result c.value_byte-y.result _ _
    c.bytes_low-bytes.ensures).0

pub returns-then-low_first-clause-small : goal.returns-then-low_first-clause-small
returns-then-low_first-clause-small g c =
    (bytes_from_values c.value_byte-v.result c.value_byte-w.result c.value_byte-x.result c.value_byte-y.result _ _
    c.bytes_low-bytes.ensures).1

pub returns-else-low_first-clause-len : goal.returns-else-low_first-clause-len
returns-else-low_first-clause-len g c =
    (bytes_from_values c.value_byte-v.result c.value_byte-w.result c.value_byte-x.result c.value_byte-y.result _ _
    c.bytes_high-bytes.ensures).0

pub returns-else-low_first-clause-small : goal.returns-else-low_first-clause-small
returns-else-low_first-clause-small g c =
    (bytes_from_values c.value_byte-v.result c.value_byte-w.result c.value_byte-x.result c.value_byte-y.result _ _
    c.bytes_high-bytes.ensures).1
