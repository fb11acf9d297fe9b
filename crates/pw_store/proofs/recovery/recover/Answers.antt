use Rattle.std.proofs.Common.{sym, ◌∙◌, ap}
use Rattle.line_log.specs.Log.{recovered}
use Rattle.line_log.specs.Taker.{after_all}
use Rattle.pw_file.specs.History.{Rows}
use Rattle.pw_store.proofs.Contents.{of_file}
use Rattle.pw_store.proofs.Loaded.{with_rows, takes, after, fault_from, rows_then, some_from}
use Rattle.pw_store.proofs.Grouped.{file_is, rows_of_lines}
use Rattle.pw_store.proofs.recovery.recover.Goals as goal

pub returns-in-Ok-clause-rows : goal.returns-in-Ok-clause-rows
returns-in-Ok-clause-rows g c =
    let file = g.D.Device.seen c.args.device.now in
    rows_then g.P.Policy.policy file c.recover.new.state (ap (λ (t : Rows). after_all (takes g.P.Policy.policy) (after g.P.Policy.policy) (with_rows t) (recovered file)) (sym c.new.ensures.empty) ∙ c.in-Ok.ensures.all)

pub returns-in-Ok-clause-content : goal.returns-in-Ok-clause-content
returns-in-Ok-clause-content g c = of_file g.P.Policy.policy (g.D.Device.seen c.args.device.now) c.recover.new.state.table (returns-in-Ok-clause-rows g c)

pub returns-in-Err-clause-accepted : goal.returns-in-Err-clause-accepted
returns-in-Err-clause-accepted g c = λ rows stands.
    c.in-Err.ensures.accepted stands.form
    (some_from g.P.Policy.policy _ (g.D.Device.seen c.args.device.now) rows c.new.ensures.empty stands.rows_are)

pub returns-in-Ok-clause-stands : goal.returns-in-Ok-clause-stands
returns-in-Ok-clause-stands g c =
    let file = g.D.Device.seen c.args.device.now in
    rows_of_lines g.P.Policy.policy _ (recovered file) c.recover.new.state.table c.in-Ok.ensures.same
    (file_is g.P.Policy.policy file c.recover.new.state.table (returns-in-Ok-clause-rows g c))

pub returns-in-Ok-clause-ok : goal.returns-in-Ok-clause-ok
returns-in-Ok-clause-ok g c =
    sym (fault_from g.P.Policy.policy _ (g.D.Device.seen c.args.device.now) c.new.ensures.empty) ∙ c.in-Ok.ensures.ok

pub returns-in-Err-clause-err : goal.returns-in-Err-clause-err
returns-in-Err-clause-err g c = λ refused.
    sym (fault_from g.P.Policy.policy _ (g.D.Device.seen c.args.device.now) c.new.ensures.empty) ∙ c.in-Err.ensures.err refused
