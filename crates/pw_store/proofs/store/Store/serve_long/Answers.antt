use Rattle.pw_file.specs.Commands.{command}
use Rattle.pw_file.specs.History.{Says}
use Rattle.pw_file.specs.declared.reply.Word.TheVariants.{TooLong}
use Rattle.std.proofs.Common.{refl}
use Rattle.pw_file.proofs.Calls.{unchanged}
use Rattle.pw_store.specs.Progress.{held_by}
use Rattle.pw_store.specs.Stored.{rows_of, takes_changes}
use Rattle.pw_store.proofs.Serving.{line_answered, long_says}
use Rattle.pw_store.proofs.store.Store.serve_long.Goals as goal

pub returns-clause-served : goal.returns-clause-served
returns-clause-served g c = λ line long from asked all so_far.
    let store = c.commit.new.self in
    let after = c.commit.ensures.goes_on from asked all so_far in
    line_answered g.P.Policy.policy g.D.Device.seen g.D.Device.may_leave g.D.Device.moment g.D.Device.left_since g.D.Device.faults from asked
    (held_by store c.commit.new.group) c.commit.new.out (g.K.Sink.written c.commit.new.sink) (g.K.Sink.faults c.commit.new.sink) all after c.commit.ensures.none
    c.put_word.new.out (g.K.Sink.written c.put_word.new.sink) (g.K.Sink.faults c.put_word.new.sink) line (Says TooLong)
    (λ size same. long_says g.P.Policy.policy (rows_of store) size (takes_changes store) line long)
    (unchanged g.P.Policy.policy (command g.P.Policy.policy line) TooLong refl refl) c.put_word.ensures.puts
