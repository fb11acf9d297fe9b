use Rattle.std.proofs.Common.{◌<◌, ◌∙◌, sym, take, length}
use Rattle.std.specs.List.{flat_map}
use Rattle.line_io.proofs.Gathering.{puts_more, puts_none}
use Rattle.pw_file.specs.Replies.{row_line}
use Rattle.pw_file.proofs.Output.{row_more, row_there}
use Rattle.pw_file.proofs.listing.put_listing.Goals as goal
use Rattle.pw_file.proofs.listing.put_listing.Goals.{in-Some, in-None}

pub loop-i-init : goal.loop-i-init
loop-i-init g c = puts_none (g.K.Sink.written c.args.sink.now) (g.K.Sink.faults c.args.sink.now) c.args.out.now

pub loop-i-preserved : goal.loop-i-preserved
loop-i-preserved g c =
    let within : c.loop-i.i < length c.args.table.now = rw (sym c.len-i-end.ensures.len) c.loop-i-test.true in
    elim c.match-row_line.branch [
      | in-Some w ↦
          let more = row_more c.args.table.now c.loop-i.i w.as_slice.result.now
          (rw w.as_slice.ensures.value (sym w.in-Some.is ∙ c.row_line.ensures.line)) in
          rw (more, w.out-is, w.sink-is)
          (puts_more _ _ _ _ _ _ c.args.out.now c.loop-i.out w.put.new.self
          (flat_map row_line (take c.loop-i.i c.args.table.now)) w.as_slice.result.now
          c.loop-i.invariant w.put.ensures.puts)
      | in-None w ↦ absurd (row_there c.args.table.now c.loop-i.i within (sym w.in-None.is ∙ c.row_line.ensures.line))
    ]
