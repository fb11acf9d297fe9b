use Rattle.std.proofs.Common.{◌≡◌, ◌≤◌, ◌+◌, ◌-◌, ◌%◌, ℕ, List, length, arith, refl}
use Rattle.base64ct.specs.Encoding.{unpadded_encoding, EachBelow}
use Rattle.base64ct.proofs.Unpadded.{length-unpadded}
use Rattle.base64ct.proofs.Wrapping.{stride_characters, striding_none, striding_step, striding_fits, length-wrap_le}
use Rattle.base64ct.proofs.lines.put_blocks.Goals as goal

pub strides-init : goal.strides-init
strides-init g c = (
  omega arith,
  refl,
  striding_none g.A.Alphabet.alphabet c.args.width c.args.ending.now c.args.input.now c.args.out.now c.args.position
      c.args.room c.requires.fits,
)

pub put_lines-requires-clause-fits : goal.put_lines-requires-clause-fits
put_lines-requires-clause-fits g c =
    let a = g.A.Alphabet.alphabet in
    let input : List ℕ = c.args.input.now in
    let m : ℕ = c.min-count.result in
    let below : EachBelow 256 input = λ k. omega (arith, c.type_inv.input k) in
    let whole : m % 3 ≡ 0 = omega (arith, c.min-count.ensures, c.strides.invariant.1, c.requires.whole) in
    let within : c.strides.done + m ≤ length input = omega (arith, c.min-count.ensures, c.strides.invariant.0) in
    let is = stride_characters a input c.strides.chars c.encode_unpadded-n.new.dst c.strides.done m
    (c.strides.done + m - c.strides.done) c.encode_unpadded-n.result below (omega arith) within
    c.encode_unpadded-n.ensures.len c.encode_unpadded-n.ensures.written in
    let fit = striding_fits a c.args.width c.args.ending.now input c.args.out.now c.strides.out c.args.position
    c.strides.done c.strides.at c.args.room c.strides.left m _ below whole within refl c.strides.invariant.2 in
    rw is (omega (arith, fit))

pub strides-preserved : goal.strides-preserved
strides-preserved g c =
    let a = g.A.Alphabet.alphabet in
    let input : List ℕ = c.args.input.now in
    let m : ℕ = c.min-count.result in
    let below : EachBelow 256 input = λ k. omega (arith, c.type_inv.input k) in
    let whole : m % 3 ≡ 0 = omega (arith, c.min-count.ensures, c.strides.invariant.1, c.requires.whole) in
    let within : c.strides.done + m ≤ length input = omega (arith, c.min-count.ensures, c.strides.invariant.0) in
    let is = stride_characters a input c.strides.chars c.encode_unpadded-n.new.dst c.strides.done m
    (c.strides.done + m - c.strides.done) c.encode_unpadded-n.result below (omega arith) within
    c.encode_unpadded-n.ensures.len c.encode_unpadded-n.ensures.written in
    let f = rw is at c.put_lines.ensures in
    let s = striding_step a c.args.width c.args.ending.now input c.args.out.now c.strides.out c.put_lines.new.out
    c.args.position c.strides.done c.strides.at c.put_lines.result.0 c.args.room c.strides.left c.put_lines.result.1
    m _ below c.strides.invariant.1 whole within refl (omega arith) c.strides.invariant.2
    (record { put = f.put; within = f.within; at = f.at }) in
    (within, omega (arith, whole, c.strides.invariant.1), s)

pub put_in_line-requires-clause-fits : goal.put_in_line-requires-clause-fits
put_in_line-requires-clause-fits g c =
    let xs : List ℕ = unpadded_encoding g.A.Alphabet.alphabet c.args.input.now in
    let lx = length-unpadded g.A.Alphabet.alphabet c.args.input.now (λ k. omega (arith, c.type_inv.input k)) in
    omega (arith, lx, length-wrap_le c.args.width c.args.ending.now c.args.room xs, c.requires.fits)
