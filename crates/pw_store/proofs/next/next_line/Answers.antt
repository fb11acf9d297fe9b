use Rattle.std.proofs.Common.{[]}
use Rattle.pw_store.specs.Progress.{held_by}
use Rattle.pw_store.proofs.Progressing.{put_nothing}
use Rattle.pw_store.proofs.Serving.{none_owed}
use Rattle.pw_store.proofs.next.next_line.Goals as goal

pub returns-in-Some-clause-call : goal.returns-in-Some-clause-call
returns-in-Some-clause-call g c = c.in-Some.ensures.call _

pub returns-then-has_failed-clause-goes_on : goal.returns-then-has_failed-clause-goes_on
returns-then-has_failed-clause-goes_on g c = λ from asked all so_far.
    let held = held_by c.commit.new.self c.commit.new.group in
    none_owed g.P.Policy.policy g.D.Device.seen g.D.Device.may_leave g.D.Device.moment g.D.Device.left_since g.D.Device.faults from asked held c.flush.new.self
    (g.K.Sink.written c.flush.new.sink) (g.K.Sink.faults c.flush.new.sink) all c.commit.ensures.none
    (put_nothing g.P.Policy.policy g.D.Device.seen g.D.Device.may_leave g.D.Device.moment g.D.Device.left_since g.D.Device.faults from asked held [] c.commit.new.out
    (g.K.Sink.written c.commit.new.sink) (g.K.Sink.faults c.commit.new.sink) all (c.commit.ensures.goes_on from asked all so_far)
    c.flush.new.self (g.K.Sink.written c.flush.new.sink) (g.K.Sink.faults c.flush.new.sink) c.flush.ensures.puts)

pub returns-clause-goes_on : goal.returns-clause-goes_on
returns-clause-goes_on g c = λ from asked all so_far.
    let held = held_by c.commit.new.self c.commit.new.group in
    none_owed g.P.Policy.policy g.D.Device.seen g.D.Device.may_leave g.D.Device.moment g.D.Device.left_since g.D.Device.faults from asked held c.flush.new.self
    (g.K.Sink.written c.flush.new.sink) (g.K.Sink.faults c.flush.new.sink) all c.commit.ensures.none
    (put_nothing g.P.Policy.policy g.D.Device.seen g.D.Device.may_leave g.D.Device.moment g.D.Device.left_since g.D.Device.faults from asked held [] c.commit.new.out
    (g.K.Sink.written c.commit.new.sink) (g.K.Sink.faults c.commit.new.sink) all (c.commit.ensures.goes_on from asked all so_far)
    c.flush.new.self (g.K.Sink.written c.flush.new.sink) (g.K.Sink.faults c.flush.new.sink) c.flush.ensures.puts)
