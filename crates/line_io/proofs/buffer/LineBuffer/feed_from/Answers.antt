use Rattle.std.proofs.Common.{arith, ◌≡◌, ◌-◌, ◌∙◌, sym, length, ap}
use Rattle.line_io.specs.Buffer.{pending}
use Rattle.line_io.proofs.BufferLaws.{fewer}
use Rattle.line_io.proofs.FeedSearch.{at_part, further, part_length, past_part}
use Rattle.line_io.proofs.buffer.LineBuffer.feed_from.Goals as goal

pub returns-then-end-seen-clause-found : goal.returns-then-end-seen-clause-found
returns-then-end-seen-clause-found c = fewer _ c.args.seen (pending c.args.self.now)
    (omega (arith, ap length c.pending-pending.ensures.value, c.if-end-seen.true)) c.requires.seen

pub returns-in-Some-clause-found : goal.returns-in-Some-clause-found
returns-in-Some-clause-found c =
    let p = c.pending-pending.result.now in
    let seen = c.args.seen in
    let end = length p - c.saturating_sub-past.result in
    let same = c.pending-pending.ensures.value in
    let size : length p ≡ length (pending c.args.self.now) = ap length same in
    let found = c.in-Some.ensures.found in
    let long = part_length p seen end (omega arith) (omega arith) in
    let low = found.0 in (
      omega (arith, size, long, low),
      omega (arith, size, long, low),
      rw (sym same) (further p seen end c.in-Some.at (omega (arith, long, low)) (rw same c.requires.seen) found.1),
      rw (sym same) (sym (at_part p seen end c.in-Some.at (omega (arith, long, low))) ∙ found.2),
    )

pub returns-in-None-clause-found : goal.returns-in-None-clause-found
returns-in-None-clause-found c =
    let p = c.pending-pending.result.now in
    let same = c.pending-pending.ensures.value in
    rw (sym same) (rw (sym c.saturating_sub-past.ensures)
    (past_part p c.args.seen (length p - c.saturating_sub-past.result) (omega arith) (omega arith)
    (rw same c.requires.seen) c.in-None.ensures.found))
