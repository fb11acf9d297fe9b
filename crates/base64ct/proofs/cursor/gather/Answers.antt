use Rattle.std.proofs.Common.{◌≡◌, ◌≤◌, ◌+◌, ◌-◌, ℕ, List, drop, length, arith, refl, ap, ◌∙◌, sym}
use Rattle.base64ct.specs.Wrapping.{characters_from}
use Rattle.base64ct.proofs.Wrapping.{length-put_mid}
use Rattle.base64ct.proofs.Written.{copied, length_front}
use Rattle.base64ct.proofs.Gathers.{gathered_first, gathered_more, gathered_all}
use Rattle.base64ct.proofs.cursor.gather.Goals as goal

pub lines-init : goal.lines-init
lines-init c =
    let n : ℕ = c.min-count.result in
    let ys : List ℕ = c.copy_from_slice.new.self in
    let body : List ℕ = c.args.body.now in
    let within : c.args.at + n ≤ length body = omega (arith, c.min-count.ensures, c.min.ensures, c.requires.within) in
    let is = copied body ys c.args.at _ n (omega arith) within c.copy_from_slice.ensures.after in
    let ln = length_front n ys c.args.buffer.now is.1 (omega (arith, c.min-count.ensures)) in (
      omega (arith, ln, c.min-count.ensures),
      ln,
      within,
      (λ some more. omega (arith, some, more, ln, c.min-count.ensures, c.min.ensures)),
      gathered_first c.args.width body c.args.buffer.now ys c.args.at c.args.room n
          (omega (arith, c.min-count.ensures, c.min.ensures)) within is.0,
    )

pub returns-then-place-body : goal.returns-then-place-body
returns-then-place-body c = λ s is. omega (
  arith,
  c.lines.invariant.1,
  gathered_all c.args.width c.args.body.now c.lines.buffer c.args.at c.args.room c.lines.place c.lines.left
      c.lines.place c.lines.left c.lines.count s
      c.lines.invariant.4 refl c.lines.invariant.2 c.lines-test.true
      (λ lt. absurd (omega (arith, lt, c.if-place-body.true)))
      (λ _ lt. absurd (omega (arith, lt, c.if-place-body.true))) is,
)

pub lines-preserved : goal.lines-preserved
lines-preserved c =
    let n : ℕ = c.min-n.result in
    let start : ℕ = c.in-Some.next in
    let ys : List ℕ = c.copy_from_slice-in-lines.new.self in
    let body : List ℕ = c.args.body.now in
    let within : start + n ≤ length body =
    omega (arith, c.min-n.ensures, c.min-in-lines.ensures, c.in-Some.ensures.2) in
    let fits : c.lines.count + n ≤ length c.lines.buffer = omega (arith, c.min-n.ensures, c.lines-test.true) in
    let is = copied body ys start _ n (omega arith) within c.copy_from_slice-in-lines.ensures.after in
    let ended : c.lines.left ≡ 0 =
    c.lines.invariant.3 c.lines-test.true (omega (arith, c.in-Some.ensures.1, c.in-Some.ensures.2)) in
    let same : characters_from c.args.width c.args.width (drop start body)
    ≡ characters_from c.args.width c.lines.left (drop c.lines.place body) =
    sym c.in-Some.ensures.0 ∙ ap (λ (r : ℕ). characters_from c.args.width r (drop c.lines.place body)) (sym ended) in
    let ln = length-put_mid c.lines.count (c.lines.count + n - c.lines.count) c.lines.buffer ys (omega (arith, fits))
    (omega (arith, is.1)) in (
      omega (arith, ln, fits),
      omega (arith, ln, c.lines.invariant.1),
      within,
      (λ some more. omega (arith, some, more, ln, c.min-n.ensures, c.min-in-lines.ensures)),
      gathered_more c.args.width body c.lines.buffer ys c.args.at c.args.room c.lines.place c.lines.left start
          c.args.width c.lines.count (c.lines.count + n - c.lines.count) n c.lines.invariant.4 same
          (omega (arith, c.min-n.ensures, c.min-in-lines.ensures)) within (omega arith) fits is.0,
    )
