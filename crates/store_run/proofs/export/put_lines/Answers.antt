use Rattle.std.proofs.Common.{◌≡◌, ◌+◌, ◌<◌, ℕ, List, sym, take, length, slice_get, refl, Option, None, Some}
use Rattle.line_io.proofs.Gathering.{puts_more, puts_none}
use Rattle.line_io.specs.Output.{Puts}
use Rattle.pw_store.specs.Stored.{rows_of}
use Rattle.store_run.specs.Export.{export_line, export_text}
use Rattle.store_run.proofs.Exported.{exported_more, user_there}
use Rattle.store_run.proofs.export.put_lines.Goals as goal

pub loop-i-init : goal.loop-i-init
loop-i-init g c = puts_none (g.K.Sink.written c.args.sink.now) (g.K.Sink.faults c.args.sink.now) c.args.out.now

pub loop-i-preserved : goal.loop-i-preserved
loop-i-preserved g c =
    let within : c.loop-i.i < length (rows_of c.args.store.now) = rw (sym c.len-i-end.ensures) c.loop-i-test.true in
    by_row within (slice_get (rows_of c.args.store.now) c.loop-i.i) refl
  where
    by_row : c.loop-i.i < length (rows_of c.args.store.now) → (row : Option (List ℕ × List ℕ))
        → slice_get (rows_of c.args.store.now) c.loop-i.i ≡ row
        → Puts (g.K.Sink.written c.args.sink.now) (g.K.Sink.written c.put_row.new.sink) (g.K.Sink.faults c.args.sink.now)
        (g.K.Sink.faults c.put_row.new.sink) c.args.out.now c.put_row.new.out
        (export_text (take (c.loop-i.i + 1) (rows_of c.args.store.now)))
    by_row within None at = absurd (user_there (rows_of c.args.store.now) c.loop-i.i within at)
    by_row within (Some row) at =
        rw (exported_more (rows_of c.args.store.now) c.loop-i.i row at)
        (puts_more _ _ _ _ _ _ c.args.out.now c.loop-i.out c.put_row.new.out
        (export_text (take c.loop-i.i (rows_of c.args.store.now))) (export_line row)
        c.loop-i.invariant (c.put_row.ensures.some row at))
