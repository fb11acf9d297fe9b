use Rattle.std.proofs.Common.{◌∙◌, refl, Some}
use Rattle.pw_file.specs.Commands as of
use Rattle.pw_file.specs.declared.error.FileError.TheVariants.{Unmatched}
use Rattle.pw_store.specs.Progress.{held_by}
use Rattle.pw_store.specs.Stored.{rows_of, takes_changes}
use Rattle.pw_store.specs.declared.error.StoreError.TheVariants.{Table}
use Rattle.pw_store.proofs.Answering.{unmatched_says}
use Rattle.pw_store.proofs.Fates.{refused_as}
use Rattle.pw_store.proofs.Serving.{asks_is, refusal_served}
use Rattle.pw_store.proofs.store.Store.serve_refused.Goals as goal

pub returns-clause-served : goal.returns-clause-served
returns-clause-served g c = λ line user text asks barred from asked all so_far.
    let p = g.P.Policy.policy in
    let after = c.commit.ensures.goes_on from asked all so_far in
    refusal_served p g.D.Device.seen g.D.Device.may_leave g.D.Device.moment g.D.Device.left_since g.D.Device.faults from asked
    (held_by c.commit.new.self c.commit.new.group) c.commit.new.out (g.K.Sink.written c.commit.new.sink) (g.K.Sink.faults c.commit.new.sink) all after c.commit.ensures.none
    c.put_refusal.new.out (g.K.Sink.written c.put_refusal.new.sink) (g.K.Sink.faults c.put_refusal.new.sink) (takes_changes c.commit.new.self) refl line (Table Unmatched) c.put_refusal.result
    (asks_is p line (Some (of.Set user text)) asks.0 asks.1)
    (λ opened. unmatched_says p (rows_of c.commit.new.self) _ line (refused_as p line (of.Set user text) asks ∙ barred))
    c.refusal_word.result c.refusal_word.ensures.word c.put_refusal.ensures.puts c.put_refusal.ensures.answer
