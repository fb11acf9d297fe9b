use Rattle.std.proofs.Common.{arith}
use Rattle.base64ct.proofs.Lenience.{none_leniently, two_rest, three_rest, two_filled, three_filled}
use Rattle.base64ct.proofs.in_place.read_rest.Goals as goal

pub returns-in-empty-clause-read : goal.returns-in-empty-clause-read
returns-in-empty-clause-read g c = λ none. none_leniently g.A.Alphabet.alphabet c.args.rest.now _ (omega arith)

pub returns-in-len2-clause-read : goal.returns-in-len2-clause-read
returns-in-len2-clause-read g c = λ none.
    two_rest g.A.Alphabet.alphabet c.args.rest.now c.encode_6bits-zero.result c.decode_block.result.0
    g.met.A.Alphabet.lawful c.decode_block.ensures.small c.encode_6bits-zero.ensures (omega arith)
    (c.decode_block.ensures.fault.0 none) (c.decode_block.ensures.bytes none)

pub returns-in-len2-clause-accepted : goal.returns-in-len2-clause-accepted
returns-in-len2-clause-accepted g c = λ odd all.
    c.decode_block.ensures.fault.1
    (two_filled g.A.Alphabet.alphabet c.args.rest.now c.encode_6bits-zero.result g.met.A.Alphabet.lawful
    c.encode_6bits-zero.ensures (omega arith) all)

pub returns-in-len3-clause-read : goal.returns-in-len3-clause-read
returns-in-len3-clause-read g c = λ none.
    three_rest g.A.Alphabet.alphabet c.args.rest.now c.encode_6bits-zero.result c.decode_block-in-len3.result.0
    g.met.A.Alphabet.lawful c.decode_block-in-len3.ensures.small c.encode_6bits-zero.ensures (omega arith)
    (c.decode_block-in-len3.ensures.fault.0 none) (c.decode_block-in-len3.ensures.bytes none)

pub returns-in-len3-clause-accepted : goal.returns-in-len3-clause-accepted
returns-in-len3-clause-accepted g c = λ odd all.
    c.decode_block-in-len3.ensures.fault.1
    (three_filled g.A.Alphabet.alphabet c.args.rest.now c.encode_6bits-zero.result g.met.A.Alphabet.lawful
    c.encode_6bits-zero.ensures (omega arith) all)
