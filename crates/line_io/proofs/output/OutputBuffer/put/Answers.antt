use Rattle.std.proofs.Common.{[]}
use Rattle.line_io.proofs.Gathering.{puts_after_none, puts_kept, puts_lost}
use Rattle.line_io.proofs.output.OutputBuffer.put.Goals as goal

pub returns-then-self-2 : goal.returns-then-self-2
returns-then-self-2 g c =
    record {
      puts = puts_lost _ _ _ _ c.args.self.now c.flush.new.self [] c.args.piece.now c.flush.ensures.puts
          c.if-self-2.true;
    }

pub returns-then-piece-le-CAPACITY : goal.returns-then-piece-le-CAPACITY
returns-then-piece-le-CAPACITY g c = record {
  puts = puts_after_none _ _ _ _ _ _ c.args.self.now c.flush.new.self c.keep-then-piece-le-CAPACITY.new.self
      c.args.piece.now c.flush.ensures.puts
      (puts_kept _ _ c.flush.new.self c.keep-then-piece-le-CAPACITY.new.self c.args.piece.now
      c.keep-then-piece-le-CAPACITY.ensures.kept
      c.keep-then-piece-le-CAPACITY.ensures.same c.if-self-2.false);
}

pub returns-else-piece-le-CAPACITY : goal.returns-else-piece-le-CAPACITY
returns-else-piece-le-CAPACITY g c = record {
  puts = puts_after_none _ _ _ _ _ _ c.args.self.now c.flush.new.self c.write.new.self c.args.piece.now
      c.flush.ensures.puts c.write.ensures.puts;
}
