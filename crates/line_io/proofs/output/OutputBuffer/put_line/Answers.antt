use Rattle.std.proofs.Common.{[], ◌∷◌}
use Rattle.line_io.proofs.Gathering.{puts_more}
use Rattle.line_io.proofs.output.OutputBuffer.put_line.Goals as goal

pub returns : goal.returns
returns g c = record {
  puts = puts_more _ _ _ _ _ _ c.args.self.now c.put.new.self c.put-2.new.self c.args.line.now
      (10 ∷ []) c.put.ensures.puts c.put-2.ensures.puts;
}
