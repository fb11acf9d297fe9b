use Rattle.std.proofs.Common.{◌≡◌, ℕ, ◌+◌, ◌-◌, ◌*◌, ◌/◌, ◌%◌, length, take, ap, ◌∙◌, arith}
use Rattle.std.proofs.lemmas.Bool.{eqb-true, eq-eqb}
use Rattle.base64ct.proofs.Decoded.{progress_none}
use Rattle.base64ct.proofs.Lenience.{progress_in_place, rest_unread, end_in_place, end_accepted}
use Rattle.base64ct.proofs.in_place.read_in_place.Goals as goal

pub whole-init : goal.whole-init
whole-init g c = progress_none g.A.Alphabet.alphabet (take c.args.count c.args.buf.now) c.args.buf.now

pub whole-preserved : goal.whole-preserved
whole-preserved g c =
    let block : length c.put_three.new.to ≡ 3 =
    ap length c.put_three.ensures.after ∙ c.decode_block-wrong.ensures.len in
    progress_in_place g.A.Alphabet.alphabet c.args.buf.now c.whole.buf _ c.whole.block c.whole.fault
    c.decode_block-wrong.result.1 _ c.args.count
    (omega arith) (omega arith) c.whole.auto.buf (omega arith) block (λ k. omega (arith, c.type_inv.buf k))
    c.decode_block-wrong.ensures.fault
    (λ none. rw c.put_three.ensures.after (c.decode_block-wrong.ensures.bytes none)) c.whole.invariant

pub returns-clause-read : goal.returns-clause-read
returns-clause-read g c = λ none.
    let i : ℕ = c.args.count / 4 in
    let width : 3 * i + c.args.count % 4 * 3 / 4 - 3 * i ≡ c.args.count % 4 * 3 / 4 = omega arith in
    end_in_place g.A.Alphabet.alphabet c.args.buf.now c.whole.buf c.read_rest-wrong.result.0
    c.copy_from_slice.new.self _ i c.whole.block c.whole.fault c.read_rest-wrong.result.1 _ _ c.args.count
    g.met.A.Alphabet.lawful (omega arith) (omega arith) (omega arith) c.whole.auto.buf (omega arith) width
    c.read_rest-wrong.ensures.len (rw width c.copy_from_slice.ensures.after)
    (rest_unread g.A.Alphabet.alphabet c.args.buf.now c.whole.buf i c.whole.block c.whole.fault c.args.count
    (omega arith) (omega arith) (omega arith) c.whole.invariant)
    (λ k. omega (arith, c.type_inv.buf k)) c.read_rest-wrong.ensures.read c.whole.invariant (eqb-true _ _ none)

pub returns-clause-accepted : goal.returns-clause-accepted
returns-clause-accepted g c = λ odd all.
    let i : ℕ = c.args.count / 4 in
    eq-eqb _ _ (end_accepted g.A.Alphabet.alphabet c.args.buf.now c.whole.buf _ i c.whole.block c.whole.fault
    c.read_rest-wrong.result.1 c.args.count (omega arith) (omega arith) odd
    (rest_unread g.A.Alphabet.alphabet c.args.buf.now c.whole.buf i c.whole.block c.whole.fault c.args.count
    (omega arith) (omega arith) (omega arith) c.whole.invariant)
    c.read_rest-wrong.ensures.accepted c.whole.invariant all)
