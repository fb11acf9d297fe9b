use Rattle.std.proofs.Common.{◌≡◌, ◌≤◌, ◌+◌, ◌-◌, ℕ, List, length, take, drop, arith, ◌∙◌}
use Rattle.std.proofs.lemmas.List.{length-take-le, length-drop, take_all}
use Rattle.base64ct.proofs.Wrapping.{length-wrap_le, room-new_line}
use Rattle.base64ct.proofs.LineWrites.{lining_first, lining_fits, lining_more}
use Rattle.base64ct.proofs.lines.put_lines.Goals as goal

pub slice_bounds-copy_from_slice-end : goal.slice_bounds-copy_from_slice-end
slice_bounds-copy_from_slice-end c =
    omega (
      arith,
      c.requires.fits,
      c.min-done.ensures,
      length-wrap_le c.args.width c.args.ending.now c.args.room c.args.chars.now,
    )

pub lines-init : goal.lines-init
lines-init c = (
  omega (arith, c.min-done.ensures),
  (λ lt. omega (arith, lt, c.min-done.ensures)),
  lining_first c.args.width c.args.ending.now c.args.chars.now c.args.out.now c.copy_from_slice.new.self c.args.position
      _ c.min-done.result c.args.room c.requires.fits
      (omega (arith, c.min-done.ensures)) (omega (arith, c.min-done.ensures)) (omega arith)
      c.copy_from_slice.ensures.after,
)

pub put_line-requires-clause-fits : goal.put_line-requires-clause-fits
put_line-requires-clause-fits c =
    let n : ℕ = c.min-n.result in
    let done : ℕ = c.lines.done in
    let within : done + n ≤ length c.args.chars.now = omega (arith, c.min-n.ensures, c.lines.invariant.0) in
    let count : length (take (done + n - done) (drop done c.args.chars.now)) ≡ n =
    length-take-le (done + n - done) (drop done c.args.chars.now)
    (omega (arith, length-drop done c.args.chars.now, within)) ∙ omega arith in
    omega (
      arith,
      count,
      lining_fits c.args.width c.args.ending.now c.args.chars.now c.args.out.now c.lines.out c.args.position done
          c.lines.at c.args.room c.lines.left n c.lines.invariant.2 (c.lines.invariant.1 c.lines-test.true)
          (omega (arith, c.min-n.ensures, c.requires.line, c.lines-test.true)) (omega (arith, c.min-n.ensures)) within,
    )

pub lines-preserved : goal.lines-preserved
lines-preserved c =
    let n : ℕ = c.min-n.result in
    let done : ℕ = c.lines.done in
    let chars : List ℕ = c.args.chars.now in
    let width : done + n - done ≡ n = omega arith in
    let none : c.lines.left ≡ 0 = c.lines.invariant.1 c.lines-test.true in
    let within : done + n ≤ length chars = omega (arith, c.min-n.ensures, c.lines.invariant.0) in
    let count : length (take n (drop done chars)) ≡ n =
    length-take-le n (drop done chars) (omega (arith, length-drop done chars, within)) in
    let f = rw width at c.put_line.ensures in
    let after : c.put_line.result.1 ≡ c.args.width - n =
    rw count at f.at ∙ room-new_line c.args.width n
    (omega (arith, c.min-n.ensures, c.requires.line, c.lines-test.true)) (omega (arith, c.min-n.ensures)) in (
      within,
      (λ lt. omega (arith, lt, after, c.min-n.ensures)),
      lining_more c.args.width c.args.ending.now chars c.args.out.now c.lines.out c.put_line.new.out c.args.position
          done c.lines.at c.put_line.result.0 c.args.room 0 c.put_line.result.1 n (rw none at c.lines.invariant.2)
          (omega (arith, c.put_line.auto.out))
          (record { put = f.put; within = f.within; at = f.at }),
    )

pub returns : goal.returns
returns c =
    let all : take c.lines.done c.args.chars.now ≡ c.args.chars.now =
    take_all c.lines.done c.args.chars.now (omega (arith, c.lines-test.false)) in
    rw all at c.lines.invariant.2.wrote
