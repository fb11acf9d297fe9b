use Rattle.std.proofs.Common.{[]}
use Rattle.pw_store.specs.Progress.{held_by}
use Rattle.pw_store.proofs.Progressing.{put_nothing}
use Rattle.pw_store.proofs.run.finish.Goals as goal

pub returns-clause-goes_on : goal.returns-clause-goes_on
returns-clause-goes_on g c = λ from asked all so_far.
    put_nothing g.P.Policy.policy g.D.Device.seen g.D.Device.may_leave g.D.Device.moment g.D.Device.left_since g.D.Device.faults from asked
    (held_by c.commit.new.self c.commit.new.group) [] c.commit.new.out
    (g.K.Sink.written c.commit.new.sink) (g.K.Sink.faults c.commit.new.sink) all (c.commit.ensures.goes_on from asked all so_far)
    c.flush.new.self (g.K.Sink.written c.flush.new.sink) (g.K.Sink.faults c.flush.new.sink) c.flush.ensures.puts

pub returns-clause-stays : goal.returns-clause-stays
returns-clause-stays g c = λ failed. (c.flush.ensures.puts.stays (c.commit.ensures.stays failed)).0
