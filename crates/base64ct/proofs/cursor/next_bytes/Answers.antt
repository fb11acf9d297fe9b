use Rattle.std.proofs.Common.{◌≡◌, take, arith}
use Rattle.std.proofs.lemmas.List.{length-take}
use Rattle.base64ct.proofs.Firsts.{fault_read, good_read, last_read, last_refused}
use Rattle.base64ct.proofs.cursor.next_bytes.Goals as goal

pub returns-then-fault-ne0-clause-first : goal.returns-then-fault-ne0-clause-first
returns-then-fault-ne0-clause-first g c = λ s r some last.
    let t = c.in_ok-block.ensures.text in
    fault_read g.E.Alphabet.alphabet c.args.width c.args.body.now c.in_ok-block.block s c.args.at c.args.room
    c.in_ok-block.next c.in_ok-block.left c.in_ok-block.n r t.0 c.in_ok-block.ensures.four t.2 t.3 (omega arith)
    (λ good. absurd (omega (arith, c.if-fault-ne0.true, c.decode_block-fault.ensures.fault.1 good)))

pub returns-then-next-body-clause-first : goal.returns-then-next-body-clause-first
returns-then-next-body-clause-first g c = λ s r some last.
    let t = c.in_ok-block.ensures.text in
    let none : c.decode_block-fault.result.1 ≡ 0 = omega (arith, c.if-fault-ne0.false) in
    good_read g.E.Alphabet.alphabet c.args.width c.args.body.now c.in_ok-block.block s c.decode_block-fault.result.0
    c.args.at c.args.room c.in_ok-block.next c.in_ok-block.left c.in_ok-block.n g.met.E.Alphabet.lawful r t.0
    c.in_ok-block.ensures.four t.2 t.3 (omega arith)
    (c.decode_block-fault.ensures.fault.0 none) c.decode_block-fault.ensures.len c.decode_block-fault.ensures.small
    (c.decode_block-fault.ensures.bytes none)

pub returns-in-None-clause-first : goal.returns-in-None-clause-first
returns-in-None-clause-first g c = λ s r some last.
    let t = c.in_ok-block.ensures.text in
    absurd (last_refused g.E.Alphabet.alphabet c.args.width c.args.body.now (take c.in_ok-block.n c.in_ok-block.block) s
    c.args.at c.args.room c.in_ok-block.next c.in_ok-block.left r t.0
    (omega (arith, length-take c.in_ok-block.n c.in_ok-block.block, t.2)) (omega (arith, t.1)) last
    c.in-None.ensures.answer)

pub returns-in-Some-clause-first : goal.returns-in-Some-clause-first
returns-in-Some-clause-first g c = λ s r some last.
    let t = c.in_ok-block.ensures.text in
    last_read g.E.Alphabet.alphabet c.args.width c.args.body.now (take c.in_ok-block.n c.in_ok-block.block) s
    c.read_last.new.dst c.args.at c.args.room c.in_ok-block.next c.in_ok-block.left c.in-Some.len
    g.met.E.Alphabet.lawful r some t.0 (omega (arith, length-take c.in_ok-block.n c.in_ok-block.block, t.2))
    (omega (arith, t.1))
    (omega arith) c.in-Some.ensures.answer.1 c.in-Some.ensures.small c.in-Some.ensures.answer.0
