use Rattle.std.proofs.Common.{◌≡◌, ◌≤◌, ◌+◌, ◌-◌, ◌*◌, ◌/◌, ◌%◌, ℕ, List, length, take, drop, arith, refl, ap}
use Rattle.std.proofs.Common.{◌∙◌, sym}
use Rattle.std.proofs.lemmas.List.{length-take-le}
use Rattle.base64ct.specs.Wrapping.{characters_from, put_before}
use Rattle.base64ct.proofs.Written.{front_written, length_written}
use Rattle.base64ct.proofs.Unpadded.{unpadded-nil}
use Rattle.base64ct.proofs.Taken.{before-nil}
use Rattle.base64ct.proofs.Gathers.{bytes_read, blocks_more, blocks_missing, blocks_bad}
use Rattle.base64ct.proofs.cursor.fill_blocks.Goals as goal

pub parts-init : goal.parts-init
parts-init g c =
    let rest = characters_from c.args.width c.args.room (drop c.args.at c.args.body.now) in (
      omega arith,
      refl,
      refl,
      c.requires.within,
      (λ j. omega (arith, c.type_inv.out j)),
      sym (before-nil rest)
          ∙ ap (λ (l : List ℕ). put_before l rest) (sym (unpadded-nil g.E.Alphabet.alphabet)),
    )

pub returns-in-None : goal.returns-in-None
returns-in-None g c = λ bytes s below len is.
    let n : ℕ = c.min-count.result / 3 * 4 in
    let ln : length (take n c.parts.chars) ≡ n =
    length-take-le n c.parts.chars (omega (arith, c.min-count.ensures, c.min-count.array_long)) in
    blocks_missing g.E.Alphabet.alphabet c.args.width c.args.body.now c.parts.out bytes s c.args.at c.args.room
    c.parts.place c.parts.left c.parts.done n c.parts.invariant.5 c.parts.invariant.4 c.parts.invariant.2
    (omega (arith, c.parts.invariant.1, c.requires.whole)) c.parts.invariant.0 (omega (arith, c.min-count.ensures))
    (λ rest behind. omega (arith, c.in-None.ensures rest behind, ln)) below
    (omega (arith, len, c.parts.invariant.1)) is

pub returns-then-not-decode_unpadded : goal.returns-then-not-decode_unpadded
returns-then-not-decode_unpadded g c = λ bytes s below len is.
    let chars : List ℕ = c.gather.new.buffer in
    let front = front_written (c.min-count.result / 3 * 4) chars c.parts.chars
    (omega (arith, c.min-count.ensures, c.min-count.array_long)) c.gather.auto.buffer in
    blocks_bad g.E.Alphabet.alphabet c.args.width c.args.body.now c.parts.out bytes s chars c.args.at c.args.room
    c.parts.place c.parts.left c.in-Some.found.0 c.in-Some.found.1 c.parts.done c.min-count.result _
    c.parts.invariant.5 c.parts.invariant.4
    c.parts.invariant.2 (omega (arith, c.min-count.ensures, c.parts.invariant.1, c.parts.invariant.2, c.requires.whole))
    (omega (arith, c.min-count.ensures, c.parts.invariant.0)) c.in-Some.ensures.0 (omega (arith, front.0))
    c.if-not-decode_unpadded.true (λ read br same. c.decode_unpadded.ensures.accepted read br (same ∙ sym front.1))
    below (omega (arith, len, c.parts.invariant.1)) is

pub parts-preserved : goal.parts-preserved
parts-preserved g c =
    let a = g.E.Alphabet.alphabet in let p = c.parts in let count : ℕ = c.min-count.result in
    let chars : List ℕ = c.gather.new.buffer in let ys : List ℕ = c.decode_unpadded.new.dst in
    let fits : p.done + count ≤ length p.out = omega (arith, c.min-count.ensures, p.invariant.0) in
    let whole : count % 3 ≡ 0 =
    omega (arith, c.min-count.ensures, p.invariant.1, p.invariant.2, c.requires.whole) in
    let front = front_written (count / 3 * 4) chars p.chars
    (omega (arith, c.min-count.ensures, c.min-count.array_long)) c.gather.auto.buffer in
    let lw = length_written p.done (p.done + count - p.done) p.out ys (omega (arith, fits))
    c.decode_unpadded.auto.dst in
    let ly : length ys ≡ count = omega (arith, lw.0) in
    let read = bytes_read a _ chars ys count front.1 front.0 whole ly
    (c.decode_unpadded.ensures.read c.if-not-decode_unpadded.false) in (
      omega (arith, lw.1, fits),
      omega (arith, lw.1, p.invariant.1),
      omega (arith, whole, p.invariant.2),
      c.in-Some.ensures.1,
      (λ j. omega (arith, c.type_inv.out j)),
      blocks_more a c.args.width c.args.body.now p.out ys chars c.args.at c.args.room p.place p.left c.in-Some.found.0
          c.in-Some.found.1 p.done (p.done + count - p.done) count p.invariant.5 c.in-Some.ensures.0 p.invariant.4
          p.invariant.2 fits (omega arith) ly read,
    )
