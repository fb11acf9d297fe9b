use Rattle.std.proofs.Common.{◌≡◌, ℕ, length, List, ◌∙◌, sym, arith, slice_index}
use Rattle.base64ct.proofs.Last.{two_read, two_encoded, three_read, three_encoded, one_encoded, items_one, items_two}
use Rattle.base64ct.proofs.Last.{whole_one, whole_two, whole_three}
use Rattle.std.proofs.lemmas.List.{nil_from_length}
use Rattle.base64ct.proofs.Unpadded.{unpadded-nil}
use Rattle.base64ct.proofs.decode.read_last.Goals as goal

pub returns-in-empty-clause-read : goal.returns-in-empty-clause-read
returns-in-empty-clause-read g c = λ none.
    let len : length c.args.rest.now ≡ 0 = omega arith in
    rw (nil_from_length c.args.rest.now len) (unpadded-nil g.A.Alphabet.alphabet)

pub returns-in-len2-clause-read : goal.returns-in-len2-clause-read
returns-in-len2-clause-read g c = λ none.
    let rest : List ℕ = c.args.rest.now in
    let bytes : List ℕ = c.decode_block-fault.result.0 in
    let len : length rest ≡ 2 = omega arith in
    let three : length bytes ≡ 3 = c.decode_block-fault.ensures.len in
    rw (len, items_one bytes (omega arith))
    (two_read g.A.Alphabet.alphabet (slice_index rest 0) (slice_index rest 1) (slice_index bytes 0)
    c.encode_6bits-zero.result c.encode_block-again.result c.decode_block-fault.result.1
    (c.decode_block-fault.ensures.small 0) c.encode_6bits-zero.ensures c.encode_block-again.ensures none
    ∙ sym (whole_two rest len))

pub returns-in-len2-clause-accepted : goal.returns-in-len2-clause-accepted
returns-in-len2-clause-accepted g c = λ accepted below e.
    let rest : List ℕ = c.args.rest.now in
    two_encoded g.A.Alphabet.alphabet (slice_index rest 0) (slice_index rest 1) c.encode_6bits-zero.result
    c.decode_block-fault.result.0 c.encode_block-again.result accepted c.decode_block-fault.result.1
    g.met.A.Alphabet.lawful c.decode_block-fault.ensures.small below c.encode_6bits-zero.ensures
    c.decode_block-fault.ensures.fault c.decode_block-fault.ensures.bytes c.encode_block-again.ensures
    (e ∙ whole_two rest (omega arith))

pub returns-in-len3-clause-read : goal.returns-in-len3-clause-read
returns-in-len3-clause-read g c = λ none.
    let rest : List ℕ = c.args.rest.now in
    let bytes : List ℕ = c.decode_block-fault-in-len3.result.0 in
    let len : length rest ≡ 3 = omega arith in
    let three : length bytes ≡ 3 = c.decode_block-fault-in-len3.ensures.len in
    rw (len, items_two bytes (omega arith))
    (three_read g.A.Alphabet.alphabet (slice_index rest 0) (slice_index rest 1) (slice_index rest 2)
    (slice_index bytes 0) (slice_index bytes 1) c.encode_block-again-in-len3.result
    c.decode_block-fault-in-len3.result.1
    (c.decode_block-fault-in-len3.ensures.small 0) (c.decode_block-fault-in-len3.ensures.small 1)
    c.encode_block-again-in-len3.ensures none ∙ sym (whole_three rest len))

pub returns-in-len3-clause-accepted : goal.returns-in-len3-clause-accepted
returns-in-len3-clause-accepted g c = λ accepted below e.
    let rest : List ℕ = c.args.rest.now in
    three_encoded g.A.Alphabet.alphabet (slice_index rest 0) (slice_index rest 1) (slice_index rest 2)
    c.encode_6bits-zero.result c.decode_block-fault-in-len3.result.0 c.encode_block-again-in-len3.result accepted
    c.decode_block-fault-in-len3.result.1
    g.met.A.Alphabet.lawful c.decode_block-fault-in-len3.ensures.small below c.encode_6bits-zero.ensures
    c.decode_block-fault-in-len3.ensures.fault c.decode_block-fault-in-len3.ensures.bytes
    c.encode_block-again-in-len3.ensures
    (e ∙ whole_three rest (omega arith))

pub returns-in_default-clause-accepted : goal.returns-in_default-clause-accepted
returns-in_default-clause-accepted g c =
    λ accepted below e. absurd
    (one_encoded g.A.Alphabet.alphabet (slice_index c.args.rest.now 0) accepted below
    (e ∙ whole_one c.args.rest.now (omega arith)))
