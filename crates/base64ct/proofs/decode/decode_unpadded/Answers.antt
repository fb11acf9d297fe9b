use Rattle.std.proofs.Common.{◌≡◌, ℕ, ◌+◌, ◌-◌, ◌*◌, ◌/◌, ◌%◌, length, ap, List, ◌∙◌, sym, arith}
use Rattle.std.proofs.lemmas.Bool.{eqb-true, eq-eqb}
use Rattle.std.proofs.lemmas.List.{take_rest, length-take-le}
use Rattle.base64ct.proofs.Decoded.{progress_none, progress_more, end_read, end_encoded, end_rest}
use Rattle.base64ct.proofs.decode.decode_unpadded.Goals as goal

pub whole-init : goal.whole-init
whole-init g c = progress_none g.A.Alphabet.alphabet c.args.src.now c.args.dst.now

pub whole-preserved : goal.whole-preserved
whole-preserved g c =
    let block : length c.put_three.new.to ≡ 3 =
    ap length c.put_three.ensures.after ∙ c.decode_block-wrong.ensures.len in
    progress_more g.A.Alphabet.alphabet c.args.src.now c.args.dst.now c.whole.dst _ c.whole.block c.whole.fault
    c.decode_block-wrong.result.1 _
    (omega arith) (omega arith) (omega arith) block (λ k. omega (arith, c.type_inv.dst k))
    c.decode_block-wrong.ensures.fault
    (λ none. rw c.put_three.ensures.after (c.decode_block-wrong.ensures.bytes none)) c.whole.invariant

pub returns-clause-read : goal.returns-clause-read
returns-clause-read g c = λ none.
    let i : ℕ = length c.args.src.now / 4 in
    let bytes : List ℕ = c.read_last-wrong.result.0 in
    let three : length bytes ≡ 3 = c.read_last-wrong.ensures.len in
    let taken : length c.copy_from_slice.new.self ≡ length c.args.src.now % 4 * 3 / 4 =
    ap length c.copy_from_slice.ensures.after ∙ length-take-le _ bytes (omega arith) in
    let width : 3 * i + length c.args.src.now % 4 * 3 / 4 - 3 * i ≡ length c.args.src.now % 4 * 3 / 4 = omega arith in
    end_read g.A.Alphabet.alphabet c.args.src.now c.args.dst.now c.whole.dst bytes c.copy_from_slice.new.self _ i
    c.whole.block c.whole.fault c.read_last-wrong.result.1 _ _
    (omega arith) (omega arith) width (omega arith) (omega arith) (taken ∙ sym width)
    (rw width c.copy_from_slice.ensures.after) (take_rest c.args.src.now (4 * i))
    (λ k. omega (arith, c.type_inv.dst k))
    c.read_last-wrong.ensures.read c.whole.invariant (eqb-true _ _ none)

pub returns-clause-accepted : goal.returns-clause-accepted
returns-clause-accepted g c = λ bytes below e.
    let i : ℕ = length c.args.src.now / 4 in
    eq-eqb _ _ (end_encoded g.A.Alphabet.alphabet c.args.src.now c.args.dst.now c.whole.dst _ bytes i c.whole.block
    c.whole.fault c.read_last-wrong.result.1 g.met.A.Alphabet.lawful
    (omega arith) (take_rest c.args.src.now (4 * i)) c.read_last-wrong.ensures.accepted c.whole.invariant below e)

pub returns-clause-rest : goal.returns-clause-rest
returns-clause-rest g c =
    let i : ℕ = length c.args.src.now / 4 in
    let three : length c.read_last-wrong.result.0 ≡ 3 = c.read_last-wrong.ensures.len in
    let taken : length c.copy_from_slice.new.self ≡ length c.args.src.now % 4 * 3 / 4 =
    ap length c.copy_from_slice.ensures.after ∙ length-take-le _ c.read_last-wrong.result.0 (omega arith) in
    let width : 3 * i + length c.args.src.now % 4 * 3 / 4 - 3 * i ≡ length c.args.src.now % 4 * 3 / 4 = omega arith in
    end_rest g.A.Alphabet.alphabet c.args.src.now c.args.dst.now c.whole.dst c.copy_from_slice.new.self i c.whole.block
    c.whole.fault _ _
    (omega arith) (omega arith) (omega arith) (taken ∙ sym width) c.whole.invariant
