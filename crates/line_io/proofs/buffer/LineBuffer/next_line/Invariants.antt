use Rattle.std.proofs.Common.{◌≡◌, ◌≤◌, ◌+◌, ◌-◌, [], cond, true}
use Rattle.std.specs.List.{list_any}
use Rattle.line_io.specs.Lines.{is_feed}
use Rattle.line_io.specs.Buffer.{pending, line, taken, max_bytes, is_ended}
use Rattle.line_io.proofs.BufferLaws.{Gathered}
use Rattle.line_io.proofs.buffer.LineBuffer.next_line.Given as goal

abbrev pub invariant-loop-at : goal.invariant-loop-at
invariant-loop-at g l = record {
  gathered : Gathered (g.S.Source.left l.fn.source) (g.S.Source.left l.source) l.fn.self l.self l.long l.seen;
  no_line : line l.self ≡ [];
  line_pending : list_any is_feed (pending l.fn.self) ≡ true →
      (pending l.self ≡ pending l.fn.self) × (taken l.self ≡ taken l.fn.self) × (l.source ≡ l.fn.source);
  after_end : is_ended l.fn.self ≡ true → l.source ≡ l.fn.source;
  count : g.S.Source.faults l.fn.source ≤ g.S.Source.faults l.source;
}

-- a read takes a byte or ends
abbrev pub decreases-loop-at : goal.decreases-loop-at
decreases-loop-at g l = max_bytes l.self + 1 - taken l.self + cond (is_ended l.self) 0 1
