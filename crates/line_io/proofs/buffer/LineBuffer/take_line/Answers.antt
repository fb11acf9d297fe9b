use Rattle.std.proofs.Common.{rules, ◌+◌}
use Rattle.line_io.specs.Buffer.{pending}
use Rattle.line_io.proofs.BufferLaws.{dropped}
use Rattle.line_io.proofs.buffer.LineBuffer.take_line.Goals as goal

pub returns-clause-pending : goal.returns-clause-pending
unfolding pending
returns-clause-pending c =
    dropped c.args.self.now.bytes c.args.self.now.start c.args.self.now.end (c.args.count + c.args.skip) (search rules)
