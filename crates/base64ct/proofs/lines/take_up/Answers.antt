use Rattle.std.proofs.Common.{◌<◌, ℕ, List, ◌++◌, length, take, arith, ◌∙◌, sym}
use Rattle.std.proofs.lemmas.List.{take_rest, length-append, length-take-le}
use Rattle.base64ct.proofs.Held.{letters_one, rest_one, letters_two, rest_two, held_none}
use Rattle.base64ct.proofs.lines.take_up.Goals as goal

pub returns-then-count-input-lt3-clause-wrote : goal.returns-then-count-input-lt3-clause-wrote
returns-then-count-input-lt3-clause-wrote g c =
    let held : List ℕ = take c.args.count c.args.waiting.now ++ c.args.input.now in
    let few : length held < 3 =
    omega (
      arith,
      length-append (take c.args.count c.args.waiting.now) c.args.input.now,
      length-take-le c.args.count c.args.waiting.now (omega arith),
    ) in
    held_none g.A.Alphabet.alphabet c.args.width c.args.ending.now c.args.out.now held c.args.position c.args.room
    (omega arith) few

pub put_then_take-requires-clause-fits : goal.put_then_take-requires-clause-fits
put_then_take-requires-clause-fits g c =
    let letters = letters_one g.A.Alphabet.alphabet c.args.waiting.now c.args.input.now c.encode_block-block.result
    c.args.count (omega arith) (omega arith) (omega arith) c.requires.small (λ i. omega (arith, c.type_inv.input i))
    c.encode_block-block.ensures in
    rw (take_rest c.args.input.now 2, ← letters) c.requires.fits

pub returns-then-count-eq1-clause-wrote : goal.returns-then-count-eq1-clause-wrote
returns-then-count-eq1-clause-wrote g c =
    let letters = letters_one g.A.Alphabet.alphabet c.args.waiting.now c.args.input.now c.encode_block-block.result
    c.args.count (omega arith) (omega arith) (omega arith) c.requires.small (λ i. omega (arith, c.type_inv.input i))
    c.encode_block-block.ensures in
    rw letters (rw (take_rest c.args.input.now 2) at c.put_then_take.ensures.wrote)

pub returns-then-count-eq1-clause-wait : goal.returns-then-count-eq1-clause-wait
returns-then-count-eq1-clause-wait g c =
    (rw (take_rest c.args.input.now 2) at c.put_then_take.ensures.wait)
    ∙ sym (rest_one c.args.waiting.now c.args.input.now c.args.count (omega arith) (omega arith) (omega arith))

pub put_then_take-requires-2-clause-fits : goal.put_then_take-requires-2-clause-fits
put_then_take-requires-2-clause-fits g c =
    let letters = letters_two g.A.Alphabet.alphabet c.args.waiting.now c.args.input.now c.encode_block-block-2.result
    c.args.count (omega arith) (omega arith) (omega arith) c.requires.small (λ i. omega (arith, c.type_inv.input i))
    c.encode_block-block-2.ensures in
    rw (take_rest c.args.input.now 1, ← letters) c.requires.fits

pub returns-clause-wrote : goal.returns-clause-wrote
returns-clause-wrote g c =
    let letters = letters_two g.A.Alphabet.alphabet c.args.waiting.now c.args.input.now c.encode_block-block-2.result
    c.args.count (omega arith) (omega arith) (omega arith) c.requires.small (λ i. omega (arith, c.type_inv.input i))
    c.encode_block-block-2.ensures in
    rw letters (rw (take_rest c.args.input.now 1) at c.put_then_take-2.ensures.wrote)

pub returns-clause-wait : goal.returns-clause-wait
returns-clause-wait g c =
    (rw (take_rest c.args.input.now 1) at c.put_then_take-2.ensures.wait)
    ∙ sym (rest_two c.args.waiting.now c.args.input.now c.args.count (omega arith) (omega arith) (omega arith))
