use Rattle.std.proofs.Common.{refl, false}
use Rattle.line_io.proofs.BufferLaws.{start, found, keeps_same}
use Rattle.line_io.proofs.buffer.LineBuffer.next_pending.Goals as goal

pub returns-in-Some-clause-call : goal.returns-in-Some-clause-call
returns-in-Some-clause-call c left =
    let f = c.in-Some.ensures.found in
    rw c.answer_line.ensures.answer
    (found left left c.args.self.now c.args.self.now c.answer_line.new.self false 0 c.in-Some.at
    (start left c.args.self.now c.args.self.now c.requires refl (keeps_same c.args.self.now))
    c.answer_line.ensures.rest f.0 f.1 f.2 f.3 c.answer_line.ensures.line c.answer_line.ensures.pending)
