use Rattle.std.proofs.Common.{◌≡◌, ℕ, ◌+◌, ◌≤◌, [], ◌∷◌, ◌++◌, length, refl, sym, ap, ◌∙◌, arith, subst, true, Err}
use Rattle.line_io.specs.Output.{has_failed}
use Rattle.line_io.proofs.Runs.{run_first, run_start}
use Rattle.line_log.proofs.Moments.{started}
use Rattle.pieces.proofs.RisenCounts.{risen_since}
use Rattle.pw_store.specs.Progress.{Begun, held_by}
use Rattle.pw_store.specs.Staged.{lines_of}
use Rattle.pw_store.specs.Store.{StandsFor}
use Rattle.pw_store.specs.Stored.{rows_of, size_of, takes_changes}
use Rattle.pw_store.specs.declared.stop.Stop.{Stop}
use Rattle.pw_store.proofs.Grouped.{rest_left}
use Rattle.pw_store.proofs.Outcomes.{all_told, broken_takes, crash_told, good_takes, if_told, read_stop, status_range, stopped_as, write_stop}
use Rattle.pw_store.proofs.Progressing.{progress_start}
use Rattle.pw_store.proofs.Serving.{base_rows, empty_ready, none_owed}
use Rattle.pw_store.proofs.run.run_store.Goals as goal

pub lines-init : goal.lines-init
lines-init g c =
    let store = c.args.store.now in
    let none : length (lines_of c.new-group.result) ≡ 0 = ap length c.new-group.ensures.lines in
    let size : size_of store + length (lines_of c.new-group.result) ≡ size_of store = omega (arith, none) in
    let from : Begun _ = record {
      rows = rows_of store;
      size = size_of store;
      device = store.log.device;
      written = g.K.Sink.written c.args.sink.now;
      faults = g.K.Sink.faults c.args.sink.now;
      out = c.new-out.result;
    } in
    let held = held_by store c.new-group.result in
    record {
      ready = empty_ready g.P.Policy.policy g.D.Device.seen g.D.Device.may_leave store c.new-group.result c.requires.sound c.new-group.ensures.lines (ap length c.new-group.ensures.undo);
      runs = record {
        asked = [];
        given = run_start (g.S.Source.left c.args.source.now) c.new-lines.result c.args.max (record {
          pending_none = c.new-lines.ensures.pending;
          taken_none = c.new-lines.ensures.taken;
          max_same = c.new-lines.ensures.max;
          unended = c.new-lines.ensures.ended;
          unclosed = c.new-lines.ensures.closed;
        });
        so_far = none_owed g.P.Policy.policy g.D.Device.seen g.D.Device.may_leave g.D.Device.moment g.D.Device.left_since g.D.Device.faults from [] held c.new-out.result
            (g.K.Sink.written c.args.sink.now) (g.K.Sink.faults c.args.sink.now) true (ap length c.new-group.ensures.undo)
            (progress_start g.P.Policy.policy g.D.Device.seen g.D.Device.may_leave g.D.Device.moment g.D.Device.left_since g.D.Device.faults from held c.requires.open refl size
            (ap length c.new-group.ensures.undo) (base_rows g.P.Policy.policy (g.D.Device.seen store.log.device) (rows_of store) (c.requires.sound.rows c.requires.open)) refl
            (started g.D.Device.moment g.D.Device.left_since store.log.device (StandsFor g.P.Policy.policy (rows_of store))
            (λ f left. rest_left g.P.Policy.policy g.D.Device.seen g.D.Device.may_leave store.log (rows_of store) (c.requires.sound.settled c.requires.open) (c.requires.sound.rows c.requires.open) f
            (g.met.D.Device.only_now store.log.device f left))));
      };
      reads = omega arith;
    }

pub lines-preserved : goal.lines-preserved
lines-preserved g c =
    let runs = c.lines.invariant.runs in
    let line = c.in-Ok.ensures.next _ runs.asked c.lines.all_good runs.so_far in
    let one = run_first line.0 _ _ _ c.lines.lines c.next_step.new.lines c.args.max runs.asked line.3 runs.given line.1 line.2 line.4 line.5 in
    record {
      ready = c.next_step.ensures.ready;
      runs = record { asked = runs.asked ++ line.3 ∷ []; given = one.0; so_far = line.6 };
      reads = omega (arith, c.next_step.ensures.count, c.lines.invariant.reads);
    }

pub returns-in-Err-clause-outcome : goal.returns-in-Err-clause-outcome
returns-in-Err-clause-outcome g c =
    let runs = c.lines.invariant.runs in
    let step = c.in-Err.ensures.next _ runs.asked c.lines.all_good runs.so_far in
    let end = c.finish.ensures.goes_on _ runs.asked c.lines.all_good step.0 in
    let stopped = stopped_as g.P.Policy.policy _ (rows_of c.finish.new.store) _ (takes_changes c.finish.new.store) c.in-Err.stop _ _ c.lines.lines c.next_step.new.lines
    (λ is. c.finish.ensures.idle (c.in-Err.ensures.none (ap (λ (s : Stop). Err s) is))) step.1 in
    all_told g.P.Policy.policy g.D.Device.seen g.D.Device.may_leave g.D.Device.moment g.D.Device.left_since g.D.Device.faults _ runs.asked
    (held_by c.finish.new.store c.finish.new.group) c.finish.new.out _ _ c.lines.all_good end c.finish.ensures.empty _ _ _ c.lines.lines c.next_step.new.lines c.args.max runs.given
    c.new-out.ensures.none
    (λ opened f left. rest_left g.P.Policy.policy g.D.Device.seen g.D.Device.may_leave c.finish.new.store.log (rows_of c.finish.new.store) (c.finish.ensures.sound.settled opened)
    (c.finish.ensures.sound.rows opened) f left)
    (has_failed c.finish.new.out) refl c.finish.ensures.none c.in-Err.stop stopped c.status.result (rw c.has_failed.ensures.failed at c.status.ensures.status)

pub returns-in-Err-clause-statuses : goal.returns-in-Err-clause-statuses
returns-in-Err-clause-statuses g c =
    let range = status_range c.in-Err.stop c.lines.all_good (takes_changes c.finish.new.store) c.has_failed.result in
    (subst (λ (n : ℕ). n ≤ 7) (sym c.status.ensures.status) range.0, λ two. range.1 (sym c.status.ensures.status ∙ two))

pub returns-in-Err-clause-good : goal.returns-in-Err-clause-good
returns-in-Err-clause-good g c = λ low.
    good_takes c.in-Err.stop c.lines.all_good (takes_changes c.finish.new.store) c.has_failed.result (subst (λ (n : ℕ). n ≤ 1) c.status.ensures.status low)

pub returns-in-Err-clause-broken : goal.returns-in-Err-clause-broken
returns-in-Err-clause-broken g c = λ seven.
    broken_takes c.in-Err.stop c.lines.all_good (takes_changes c.finish.new.store) c.has_failed.result (sym c.status.ensures.status ∙ seven)

pub returns-in-Err-clause-read_fault : goal.returns-in-Err-clause-read_fault
returns-in-Err-clause-read_fault g c = λ three.
    let stop = read_stop c.in-Err.stop c.lines.all_good (takes_changes c.finish.new.store) c.has_failed.result (sym c.status.ensures.status ∙ three) in
    risen_since _ _ _ c.lines.invariant.reads (c.in-Err.ensures.cause (ap (λ (s : Stop). Err s) stop))

pub returns-in-Err-clause-write_fault : goal.returns-in-Err-clause-write_fault
returns-in-Err-clause-write_fault g c = λ four.
    let runs = c.lines.invariant.runs in
    let step = c.in-Err.ensures.next _ runs.asked c.lines.all_good runs.so_far in
    let end = c.finish.ensures.goes_on _ runs.asked c.lines.all_good step.0 in
    let failed = write_stop c.in-Err.stop c.lines.all_good (takes_changes c.finish.new.store) c.has_failed.result
    (λ is. c.has_failed.ensures.failed ∙ c.finish.ensures.stays (c.in-Err.ensures.failed (ap (λ (s : Stop). Err s) is))) (sym c.status.ensures.status ∙ four) in
    end.put.cause c.new-out.ensures.unfailed (sym c.has_failed.ensures.failed ∙ failed)

pub returns-in-Err-clause-disk_fault : goal.returns-in-Err-clause-disk_fault
returns-in-Err-clause-disk_fault g c = λ broken.
    let runs = c.lines.invariant.runs in
    let step = c.in-Err.ensures.next _ runs.asked c.lines.all_good runs.so_far in
    let end = c.finish.ensures.goes_on _ runs.asked c.lines.all_good step.0 in
    end.risen broken

pub returns-in-Err-clause-any_moment : goal.returns-in-Err-clause-any_moment
returns-in-Err-clause-any_moment g c =
    let runs = c.lines.invariant.runs in
    let step = c.in-Err.ensures.next _ runs.asked c.lines.all_good runs.so_far in
    let end = c.finish.ensures.goes_on _ runs.asked c.lines.all_good step.0 in
    if_told (g.S.Source.left c.args.source.now) _
    (crash_told g.P.Policy.policy g.D.Device.seen g.D.Device.may_leave g.D.Device.moment g.D.Device.left_since g.D.Device.faults _ runs.asked
    (held_by c.finish.new.store c.finish.new.group) c.finish.new.out _ _ c.lines.all_good end c.finish.ensures.empty
    (g.S.Source.left c.args.source.now) (g.S.Source.left c.lines.source) (g.S.Source.left c.next_step.new.source) c.lines.lines c.next_step.new.lines c.args.max runs.given
    c.new-out.ensures.none
    (λ opened f left. rest_left g.P.Policy.policy g.D.Device.seen g.D.Device.may_leave c.finish.new.store.log (rows_of c.finish.new.store) (c.finish.ensures.sound.settled opened)
    (c.finish.ensures.sound.rows opened) f left))

pub lines-smaller : goal.lines-smaller
lines-smaller g c =
    let runs = c.lines.invariant.runs in
    let line = c.in-Ok.ensures.next _ runs.asked c.lines.all_good runs.so_far in
    let one = run_first line.0 _ _ _ c.lines.lines c.next_step.new.lines c.args.max runs.asked line.3 runs.given line.1 line.2 line.4 line.5 in
    omega (arith, one.1, one.2)
