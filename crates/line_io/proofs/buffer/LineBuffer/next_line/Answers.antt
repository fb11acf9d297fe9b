use Rattle.std.proofs.Common.{arith, rules, length, ap, ◌∙◌, refl, sym}
use Rattle.std.proofs.lemmas.Bool.{true≢false}
use Rattle.line_io.specs.Buffer.{pending}
use Rattle.line_io.proofs.BufferLaws.{start, found, budget, last_line, fill_step, drop_step, all_free}
use Rattle.line_io.proofs.BufferLaws.{feed_pending}
use Rattle.line_io.proofs.buffer.LineBuffer.next_line.Goals as goal
use Rattle.line_io.proofs.buffer.LineBuffer.next_line.Goals.{else-count-eq0-via-then-count-eq0+else-not-long}
use Rattle.line_io.proofs.buffer.LineBuffer.next_line.Goals.{else-count-eq0-via-else-count-eq0}

pub loop-at-init : goal.loop-at-init
loop-at-init g c = record {
  gathered = start _ c.args.self.now c.clear_line.new.self c.requires c.clear_line.ensures.pending
      c.clear_line.ensures.rest;
  no_line = c.clear_line.ensures.line;
  line_pending = λ e. (c.clear_line.ensures.pending, c.clear_line.ensures.rest.taken_same, refl);
  after_end = λ e. refl;
  count = omega arith;
}

pub returns-in-Some-clause-call : goal.returns-in-Some-clause-call
returns-in-Some-clause-call g c =
    let f = c.in-Some.ensures.found in
    rw c.answer_line.ensures.answer
    (found _ _ c.args.self.now c.loop-at.self c.answer_line.new.self c.loop-at.long c.loop-at.seen c.in-Some.at
    c.loop-at.invariant.gathered c.answer_line.ensures.rest f.0 f.1 f.2 f.3 c.answer_line.ensures.line
    c.answer_line.ensures.pending)

pub returns-then-self-clause-call : goal.returns-then-self-clause-call
returns-then-self-clause-call g c =
    rw c.close.ensures.answer
    (budget _ _ c.args.self.now c.loop-at.self c.close.new.self c.loop-at.long c.loop-at.seen
    c.loop-at.invariant.gathered c.loop-at.invariant.no_line
    (search rules) c.if-self.true c.feed_from.ensures.past c.in_default.ensures.found c.close.ensures.closes)

pub returns-then-self-2-clause-call : goal.returns-then-self-2-clause-call
returns-then-self-2-clause-call g c =
    let free = all_free c.loop-at.self c.if-self.false c.in_default.ensures.found in
    let count = ap length c.pending-count.ensures.value in
    rw c.answer_line-then-self-2.ensures.answer
    (last_line _ _ c.args.self.now c.loop-at.self c.answer_line-then-self-2.new.self c.loop-at.long c.loop-at.seen
    (length c.pending-count.result.now)
    c.loop-at.invariant.gathered c.answer_line-then-self-2.ensures.rest count free c.if-self.false c.if-self-2.true
    (elim c.else-count-eq0.branch [
      | else-count-eq0-via-then-count-eq0+else-not-long w ↦ λ h. absurd (cc (w.if-not-long.false))
      | else-count-eq0-via-else-count-eq0 w ↦ λ h. search rules
    ])
    c.answer_line-then-self-2.ensures.line c.answer_line-then-self-2.ensures.pending)

pub loop-at-preserved : goal.loop-at-preserved
loop-at-preserved g c =
    let free = all_free c.loop-at.self c.if-self.false c.in_default.ensures.found in
    let dropped = drop_step _ _ c.args.self.now c.loop-at.self c.drop_long-long.new.self c.loop-at.long
    c.drop_long-long.result c.loop-at.seen
    c.loop-at.invariant.gathered free c.drop_long-long.ensures.long c.drop_long-long.ensures.pending
    c.drop_long-long.ensures.rest in
    let unended = c.drop_long-long.ensures.rest.ended_same ∙ c.if-self-2.false in
    record {
      gathered = rw c.pending-seen.ensures.value
          (fill_step _ _ _ c.args.self.now c.drop_long-long.new.self c.fill.new.self c.drop_long-long.result
          (length (pending c.drop_long-long.new.self)) refl dropped unended c.in-Ok.ensures.fills);
      no_line = c.fill.ensures.line;
      line_pending = λ e. absurd (feed_pending c.loop-at.self (rw (c.loop-at.invariant.line_pending e).0 e) free);
      after_end = λ e. absurd (true≢false (sym (c.loop-at.invariant.gathered.stays.after_end e).0 ∙ c.if-self-2.false));
      count = omega (arith, c.fill.ensures.count);
    }
