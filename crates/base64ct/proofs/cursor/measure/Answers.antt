use Rattle.std.proofs.Common.{◌≡◌, ◌<◌, ◌-◌, ◌*◌, ℕ, length, take, arith, refl}
use Rattle.std.proofs.lemmas.List.{length-take}
use Rattle.base64ct.proofs.Firsts.{count_four}
use Rattle.base64ct.proofs.Fills.{scanned_blocks, scanned_moved, scanned_none, scanned_more, scanned_bad, measured}
use Rattle.base64ct.proofs.Fills.{measured_bad}
use Rattle.base64ct.proofs.cursor.measure.Goals as goal

pub scan-init : goal.scan-init
scan-init g c = (c.requires.some, omega arith, scanned_none c.args.width c.args.body.now, refl)

pub returns-in-None : goal.returns-in-None
returns-in-None g c = λ t is last. let l = c.line_start-start in
    scanned_bad (scanned_moved c.scan.invariant.2 l.result.0 l.result.1 l.ensures.text) t c.in-None.ensures.text is

pub scan-preserved : goal.scan-preserved
scan-preserved g c =
    let t = c.in-Some.ensures.text in let l = c.line_start-start in
    let more : c.in-Some.found.2 < length c.args.body.now = omega (arith, t.1) in
    let four : c.in-Some.found.1 ≡ 4 = count_four c.in-Some.found.1 _ _ t.2 t.3 more in (
      more,
      omega (arith, c.scan.invariant.1, l.ensures.progress, four, c.in-Some.ensures.progress),
      scanned_more (scanned_moved c.scan.invariant.2 l.result.0 l.result.1 l.ensures.text) c.in-Some.found.0
          c.in-Some.found.2 c.in-Some.found.3 c.in-Some.found.1 t.0 c.in-Some.ensures.four t.2 t.3 more,
      c.scan.invariant.3,
    )

pub returns-in-Some-read_last : goal.returns-in-Some-read_last
returns-in-Some-read_last g c =
    let t = c.in-Some.ensures.text in let l = c.line_start-start in
    let n : ℕ = c.in-Some.found.1 in let read = c.in-Some-read_last in
    let some = (t.4 (l.ensures.some c.scan.invariant.0)).0 in
    let size : length (take n c.in-Some.found.0) ≡ n =
    omega (arith, length-take n c.in-Some.found.0, c.in-Some.ensures.four, t.2) in
    measured g.E.Alphabet.alphabet (scanned_moved c.scan.invariant.2 l.result.0 l.result.1 l.ensures.text)
    (take n c.in-Some.found.0) c.read_last.new.dst c.in-Some.found.2 c.in-Some.found.3 read.len g.met.E.Alphabet.lawful
    t.0 (omega arith) (omega (arith, some, size)) (omega (arith, size, t.2)) (omega (arith, c.scan.invariant.3))
    read.ensures.answer.1 read.ensures.small read.ensures.answer.0

pub returns-in-None-read_last : goal.returns-in-None-read_last
returns-in-None-read_last g c = λ s is last.
    let t = c.in-Some.ensures.text in let l = c.line_start-start in let n : ℕ = c.in-Some.found.1 in
    let some = (t.4 (l.ensures.some c.scan.invariant.0)).0 in
    let size : length (take n c.in-Some.found.0) ≡ n =
    omega (arith, length-take n c.in-Some.found.0, c.in-Some.ensures.four, t.2) in
    measured_bad g.E.Alphabet.alphabet (scanned_moved c.scan.invariant.2 l.result.0 l.result.1 l.ensures.text)
    (take n c.in-Some.found.0) c.in-Some.found.2 c.in-Some.found.3 s t.0 (omega arith) (omega (arith, some, size))
    (omega (arith, size, t.2)) c.in-None-read_last.ensures.answer is last

pub scan-preserved-then-blocks-gt0 : goal.scan-preserved-then-blocks-gt0
scan-preserved-then-blocks-gt0 g c =
    let k : ℕ = c.blocks_at_once-blocks.result in let l = c.line_start-start in
    let behind : 4 * k < length c.args.body.now - l.result.0 =
    c.blocks_at_once-blocks.ensures.before_last c.if-blocks-gt0.true in (
      omega (arith, behind),
      omega (arith, c.scan.invariant.1, l.ensures.progress),
      scanned_blocks (scanned_moved c.scan.invariant.2 l.result.0 l.result.1 l.ensures.text) k
          c.blocks_at_once-blocks.ensures.line (omega (arith, behind)),
      c.scan.invariant.3,
    )
