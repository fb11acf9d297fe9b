use Rattle.std.proofs.Common.{◌≡◌, ◌+◌, length, length-append, refl, sym, ap, ◌∙◌, arith, Some}
use Rattle.line_log.specs.declared.log.LineLog.{LineLog}
use Rattle.pw_file.specs.Commands as of
use Rattle.pw_file.specs.Replies.{row_line}
use Rattle.pw_store.specs.Progress.{count_of, held_by, oks}
use Rattle.pw_store.specs.Staged.{lines_of}
use Rattle.pw_store.specs.Stored.{rows_of, size_after, size_of, takes_changes}
use Rattle.pw_store.proofs.Answering.{set_staged}
use Rattle.pw_store.proofs.Fates.{refused_as}
use Rattle.pw_store.proofs.Progressing.{held_as}
use Rattle.pw_store.proofs.Serving.{asks_is, refusal_served, refuses_as, set_open, set_refused, set_waits}
use Rattle.pw_store.proofs.store.Store.serve_set.Goals as goal

pub returns-in-Ok-clause-served : goal.returns-in-Ok-clause-served
returns-in-Ok-clause-served g c = λ line asks from asked all so_far.
    let store = c.args.self.now in
    let held = held_by store c.args.group.now in
    let user = c.args.user.now in
    let text = c.args.text.now in
    let more = set_open g.P.Policy.policy (takes_changes store) (rows_of store) (size_of store + length (lines_of c.args.group.now)) user text _ c.in-Ok.ensures.answer in
    let end : size_of c.stage.new.self ≡ size_of store = ap (λ (log : LineLog _). log.end) c.stage.ensures.log in
    let grown : length (lines_of c.stage.new.group) ≡ length (lines_of c.args.group.now) + length (row_line (user, text)) =
    ap length c.in-Ok.ensures.lines ∙ length-append (lines_of c.args.group.now) (row_line (user, text)) in
    let size : size_of c.stage.new.self + length (lines_of c.stage.new.group) ≡ size_after (size_of store + length (lines_of c.args.group.now)) user text = omega (arith, end, grown) in
    set_waits g.P.Policy.policy g.D.Device.seen g.D.Device.may_leave g.D.Device.moment g.D.Device.left_since g.D.Device.faults from asked held c.args.out.now
    (g.K.Sink.written c.args.sink.now) (g.K.Sink.faults c.args.sink.now) all so_far more.0 line user text (asks_is g.P.Policy.policy line (Some (of.Set user text)) asks.0 asks.1)
    (set_staged g.P.Policy.policy (rows_of store) (size_of store + length (lines_of c.args.group.now)) line user text asks (refused_as g.P.Policy.policy line (of.Set user text) asks ∙ c.requires.free) more.1)
    (held_by c.stage.new.self c.stage.new.group) c.stage.ensures.takes c.in-Ok.ensures.rows size
    (ap (λ (log : LineLog _). log.device) c.stage.ensures.log) c.in-Ok.ensures.more

pub returns-in-Err-clause-served : goal.returns-in-Err-clause-served
returns-in-Err-clause-served g c = λ line asks from asked all so_far.
    let store = c.args.self.now in
    let user = c.args.user.now in
    let text = c.args.text.now in
    let end : size_of c.stage.new.self ≡ size_of store = ap (λ (log : LineLog _). log.end) c.stage.ensures.log in
    let lines : length (lines_of c.stage.new.group) ≡ length (lines_of c.args.group.now) = ap length c.in-Err.ensures.same_lines in
    let size : size_of c.stage.new.self + length (lines_of c.stage.new.group) ≡ size_of store + length (lines_of c.args.group.now) = omega (arith, end, lines) in
    let before = held_as g.P.Policy.policy g.D.Device.seen g.D.Device.may_leave g.D.Device.moment g.D.Device.left_since g.D.Device.faults from asked
    (held_by store c.args.group.now) (oks (count_of c.args.group.now)) c.args.out.now
    (g.K.Sink.written c.args.sink.now) (g.K.Sink.faults c.args.sink.now) all so_far (held_by c.stage.new.self c.stage.new.group) (oks (count_of c.stage.new.group))
    c.stage.ensures.takes c.in-Err.ensures.same_rows (λ is. size) (ap (λ (log : LineLog _). log.device) c.stage.ensures.log) c.in-Err.ensures.as_many (ap oks c.in-Err.ensures.as_many) in
    let after = c.commit.ensures.goes_on from asked all before in
    refusal_served g.P.Policy.policy g.D.Device.seen g.D.Device.may_leave g.D.Device.moment g.D.Device.left_since g.D.Device.faults from asked
    (held_by c.commit.new.self c.commit.new.group) c.commit.new.out (g.K.Sink.written c.commit.new.sink) (g.K.Sink.faults c.commit.new.sink) all after c.commit.ensures.none
    c.put_refusal.new.out (g.K.Sink.written c.put_refusal.new.sink) (g.K.Sink.faults c.put_refusal.new.sink) (takes_changes c.commit.new.self) refl line c.in-Err.e c.put_refusal.result
    (asks_is g.P.Policy.policy line (Some (of.Set user text)) asks.0 asks.1)
    (λ opened.
    let none : length (lines_of c.commit.new.group) ≡ 0 = ap length c.commit.ensures.lines in
    let grown = c.commit.ensures.size opened in
    let size_now : size_of c.commit.new.self + length (lines_of c.commit.new.group) ≡ size_of store + length (lines_of c.args.group.now) = omega (arith, none, grown, size) in
    refuses_as g.P.Policy.policy (rows_of store) (rows_of c.commit.new.self) (size_of store + length (lines_of c.args.group.now)) (size_of c.commit.new.self + length (lines_of c.commit.new.group)) line c.in-Err.e
    (c.commit.ensures.rows opened ∙ c.in-Err.ensures.same_rows) size_now
    (set_refused g.P.Policy.policy (takes_changes store) (rows_of store) (size_of store + length (lines_of c.args.group.now)) line user text asks (refused_as g.P.Policy.policy line (of.Set user text) asks ∙ c.requires.free) c.in-Err.e
    (sym c.stage.ensures.takes ∙ c.commit.ensures.open opened) c.in-Err.ensures.answer))
    c.refusal_word.result c.refusal_word.ensures.word c.put_refusal.ensures.puts c.put_refusal.ensures.answer
