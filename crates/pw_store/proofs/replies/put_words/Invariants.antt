use Rattle.std.proofs.Common.{◌≤◌, ◌-◌}
use Rattle.line_io.specs.Output.{Puts}
use Rattle.pw_store.specs.Progress.{words}
use Rattle.pw_store.proofs.replies.put_words.Given as goal

abbrev pub invariant-each : goal.invariant-each
invariant-each g l = record {
  most : l.done ≤ l.count;
  put : Puts (g.K.Sink.written l.initial.sink) (g.K.Sink.written l.sink) (g.K.Sink.faults l.initial.sink) (g.K.Sink.faults l.sink)
      l.initial.out l.out (words l.done l.word);
}

abbrev pub decreases-each : goal.decreases-each
decreases-each g l = l.count - l.done
