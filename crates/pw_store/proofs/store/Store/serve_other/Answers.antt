use Rattle.std.proofs.Common.{◌≡◌, sym, ap, ◌∙◌, Some}
use Rattle.line_io.proofs.Gathering.{puts_none}
use Rattle.pw_file.specs.History.{Rows}
use Rattle.pw_file.specs.Lines.{shown}
use Rattle.pw_file.specs.Rules.{changed, table_reply}
use Rattle.pw_store.specs.Progress.{held_by}
use Rattle.pw_store.specs.Stored.{rows_of}
use Rattle.pw_store.proofs.Serving.{empty_ready, no_change_asked, other_served, other_wanted, runs_as, wanted_as}
use Rattle.pw_store.proofs.store.Store.serve_other.Goals as goal

pub returns-in-Some-clause-ready : goal.returns-in-Some-clause-ready
returns-in-Some-clause-ready g c =
    let line = c.args.line.now in
    let store = c.commit.new.self in
    let over = c.in-Some.ensures.rows in
    let same : c.answer_line.new.table ≡ rows_of store =
    over.1 ∙ ap (changed (rows_of store)) (no_change_asked g.P.Policy.policy line (table_reply g.P.Policy.policy (rows_of store) line) c.requires.short c.requires.other) in
    empty_ready g.P.Policy.policy g.D.Device.seen g.D.Device.may_leave (record { log = store.log; table = c.answer_line.new.table; is_open = store.is_open; alloc = store.alloc }) c.commit.new.group
    (record { settled = c.commit.ensures.sound.settled; rows = λ opened. c.commit.ensures.sound.rows opened ∙ ap (λ (r : Rows). Some r) (sym same) })
    c.commit.ensures.lines c.commit.ensures.none

pub returns-in-Some-clause-served : goal.returns-in-Some-clause-served
returns-in-Some-clause-served g c = λ from asked all so_far.
    let line = c.args.line.now in
    let store = c.commit.new.self in
    let held = held_by store c.commit.new.group in
    let over = c.in-Some.ensures.rows in
    let same : c.answer_line.new.table ≡ rows_of store =
    over.1 ∙ ap (changed (rows_of store)) (no_change_asked g.P.Policy.policy line (table_reply g.P.Policy.policy (rows_of store) line) c.requires.short c.requires.other) in
    let after = c.commit.ensures.goes_on from asked all so_far in
    runs_as g.P.Policy.policy g.D.Device.seen g.D.Device.may_leave g.D.Device.moment g.D.Device.left_since g.D.Device.faults from _ held c.put_reply.new.out
    (g.K.Sink.written c.put_reply.new.sink) (g.K.Sink.faults c.put_reply.new.sink) _ c.answer_line.new.table same
    (other_served g.P.Policy.policy g.D.Device.seen g.D.Device.may_leave g.D.Device.moment g.D.Device.left_since g.D.Device.faults from asked held c.commit.new.out
    (g.K.Sink.written c.commit.new.sink) (g.K.Sink.faults c.commit.new.sink) all after c.commit.ensures.none
    c.put_reply.new.out (g.K.Sink.written c.put_reply.new.sink) (g.K.Sink.faults c.put_reply.new.sink) line c.requires.short c.requires.other
    (shown c.answer_line.new.table c.in-Some.reply) over.0 c.is_good.result (c.is_good.ensures.good c.answer_line.new.table) c.put_reply.ensures.puts)

pub returns-in-None-clause-served : goal.returns-in-None-clause-served
returns-in-None-clause-served g c = λ from asked all so_far.
    let line = c.args.line.now in
    let store = c.commit.new.self in
    let held = held_by store c.commit.new.group in
    let over = c.in-None.ensures.rows in
    let after = c.commit.ensures.goes_on from asked all so_far in
    wanted_as g.P.Policy.policy g.D.Device.seen g.D.Device.may_leave g.D.Device.moment g.D.Device.left_since g.D.Device.faults from asked held c.commit.new.out
    (g.K.Sink.written c.commit.new.sink) (g.K.Sink.faults c.commit.new.sink) all line c.answer_line.new.table over.1
    (other_wanted g.P.Policy.policy g.D.Device.seen g.D.Device.may_leave g.D.Device.moment g.D.Device.left_since g.D.Device.faults from asked held c.commit.new.out
    (g.K.Sink.written c.commit.new.sink) (g.K.Sink.faults c.commit.new.sink) all after c.commit.ensures.none
    c.commit.new.out (g.K.Sink.written c.commit.new.sink) (g.K.Sink.faults c.commit.new.sink) line c.requires.other over.0
    (puts_none (g.K.Sink.written c.commit.new.sink) (g.K.Sink.faults c.commit.new.sink) c.commit.new.out))
