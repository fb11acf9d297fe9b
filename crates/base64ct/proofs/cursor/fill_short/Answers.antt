use Rattle.std.proofs.Common.{◌≡◌, ◌+◌, ◌-◌, ◌*◌, ◌<◌, ◌≤◌, ℕ, length, arith, ◌∙◌}
use Rattle.std.proofs.lemmas.List.{length-take-le}
use Rattle.base64ct.proofs.Fills.{filled}
use Rattle.base64ct.proofs.Turns.{IsFirst, first_none, first_some, turns_begin, turn_begins, turn_refused}
use Rattle.base64ct.proofs.Turns.{turn_bytes, turn_blocks, turn_blocks_refused}
use Rattle.base64ct.proofs.Written.{length_front, length_written}
use Rattle.base64ct.proofs.cursor.fill_short.Goals as goal
use Rattle.base64ct.proofs.cursor.fill_short.Goals.{then-skip-eq0, else-skip-eq0}

pub turns-init : goal.turns-init
turns-init g c =
    let out = c.args.out.now in let first = c.if-skip-eq0.first in let ys = c.copy_from_slice.new.self in
    let is : IsFirst (length out) c.args.read first = elim c.if-skip-eq0.branch [
      | then-skip-eq0 w ↦ first_none _ _ _ (omega (arith, w.if-skip-eq0.true)) w.first-is
      | else-skip-eq0 w ↦ first_some _ _ _ (λ e. absurd (omega (arith, e, w.if-skip-eq0.false)))
          (omega (arith, w.first-is, w.min-first.ensures)) (omega (arith, w.first-is, w.min-first.ensures))
          (λ lt. omega (arith, lt, w.first-is, w.min-first.ensures))
    ] in
    let ly : length ys ≡ first = c.copy_from_slice.auto.self ∙ length-take-le first out is.0 in
    let ln = length_front first ys out ly is.0 in (
      omega (arith, is.0, ln),
      c.requires.within,
      λ t s fits. turns_begin s out ys first _ is ly (omega arith) c.copy_from_slice.ensures.after fits,
    )

pub returns-in-None-clause-filled : goal.returns-in-None-clause-filled
returns-in-None-clause-filled g c = λ t s fits. let l = c.line_start-start in
    turn_refused (c.turns.invariant.2 t s (omega arith)) l.result.0 l.result.1 (length c.args.out.now) l.ensures.text
    l.ensures.within (omega arith) (omega arith) fits c.in-None.ensures.first

pub returns-then-some-eq0-clause-filled : goal.returns-then-some-eq0-clause-filled
returns-then-some-eq0-clause-filled g c = λ t s fits. let l = c.line_start-start in
    let b = turn_begins (c.turns.invariant.2 t s (omega arith)) l.result.0 l.result.1 l.ensures.text l.ensures.within
    (omega arith) (omega arith) c.in-Some.ensures.first in
    absurd (omega (arith, b.1.some, c.if-some-eq0.true, c.min-some.ensures))

pub turns-preserved : goal.turns-preserved
turns-preserved g c =
    let m = c.turns in let l = c.line_start-start in let some : ℕ = c.min-some.result in
    let lw = length_written m.done (m.done + some - m.done) m.out c.copy_from_slice-in-turns.new.self
    (omega (arith, c.min-some.ensures)) c.copy_from_slice-in-turns.auto.self in (
      omega (arith, lw.1, c.min-some.ensures),
      c.in-Some.ensures.bounds.2,
      λ t s fits. turn_bytes (m.invariant.2 t s (omega (arith, lw.1))) l.result.0 l.result.1 l.ensures.text
          l.ensures.within (omega arith) (omega (arith, lw.1)) c.in-Some.ensures.first _ some _ (omega arith)
          (omega (arith, c.min-some.ensures)) (omega (arith, c.min-some.ensures))
          (λ lt. omega (arith, lt, c.min-some.ensures)) (omega (arith, c.if-some-eq0.false))
          c.copy_from_slice-in-turns.ensures.after,
    )

pub returns-clause-filled : goal.returns-clause-filled
returns-clause-filled g c = λ t s fits.
    filled (c.turns.invariant.2 t s (omega arith)) (length c.args.out.now) (omega arith) (omega arith)

pub returns-then-not-decode_unpadded-clause-filled : goal.returns-then-not-decode_unpadded-clause-filled
returns-then-not-decode_unpadded-clause-filled g c = λ t s fits. let l = c.line_start-start in
    let b = c.blocks_at_once-blocks in turn_blocks_refused (c.turns.invariant.2 t s (omega arith)) l.result.0 l.result.1
    (length c.args.out.now) l.ensures.text l.ensures.within (omega arith) (omega arith) fits g.met.E.Alphabet.lawful
    b.result _ (omega arith) b.ensures.line (omega (arith, b.ensures.before_last c.if-blocks-gt0.true))
    (omega (arith, b.ensures.bytes)) c.if-not-decode_unpadded.true c.decode_unpadded.ensures.accepted

pub turns-preserved-then-blocks-gt0 : goal.turns-preserved-then-blocks-gt0
turns-preserved-then-blocks-gt0 g c =
    let m = c.turns in let l = c.line_start-start in let b = c.blocks_at_once-blocks in let d = c.decode_unpadded in
    let k : ℕ = b.result in let pos : 0 < k = c.if-blocks-gt0.true in
    let within : 3 * k ≤ length m.out - m.done = omega (arith, b.ensures.bytes) in
    let behind : l.result.0 + 4 * k < length c.args.body.now = omega (arith, b.ensures.before_last pos) in
    let lw = length_written m.done (m.done + 3 * k - m.done) m.out d.new.dst (omega (arith, within)) d.auto.dst in (
      omega (arith, lw.1, within),
      omega (arith, behind),
      λ t s fits. turn_blocks (m.invariant.2 t s (omega (arith, lw.1))) l.result.0 l.result.1 l.ensures.text
          l.ensures.within (omega arith) (omega (arith, lw.1)) g.met.E.Alphabet.lawful _ k _ _ (omega arith)
          (omega arith) b.ensures.line behind within pos d.auto.dst (λ j. omega (arith, c.type_inv.out j))
          (d.ensures.read c.if-not-decode_unpadded.false),
    )
