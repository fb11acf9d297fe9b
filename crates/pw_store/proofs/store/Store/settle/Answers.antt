use Rattle.std.proofs.Common.{◌⊎◌, inl, ℕ, List, ◌++◌, ◌∙◌, ap}
use Rattle.line_log.specs.Log.{IsBeforeOrAfter, open_lines, recovered}
use Rattle.line_log.proofs.Moments.{started, weaker}
use Rattle.pw_store.specs.Staged.{lines_of, rows_in}
use Rattle.pw_store.specs.Store.{StandsFor}
use Rattle.pw_store.specs.Stored.{rows_of}
use Rattle.pw_store.proofs.Grouped.{either, grown, rest_left, rows_of_lines, with_group}
use Rattle.pw_store.proofs.store.Store.settle.Goals as goal

pub returns-then-is_empty-clause-any_moment : goal.returns-then-is_empty-clause-any_moment
returns-then-is_empty-clause-any_moment g c = λ is_open.
    let s = c.requires.staged is_open in
    let log = c.args.self.now.log in
    let base = rows_in g.P.Policy.policy (g.D.Device.seen log.device) in
    let P : List ℕ → Type 0 = λ f. StandsFor g.P.Policy.policy base f ⊎ StandsFor g.P.Policy.policy (rows_of c.args.self.now) f in
    started g.D.Device.moment g.D.Device.left_since log.device P
    (λ f left. inl (rest_left g.P.Policy.policy g.D.Device.seen g.D.Device.may_leave log base s.settled s.file f (g.met.D.Device.only_now log.device f left)))

pub returns-in-Ok-clause-sound : goal.returns-in-Ok-clause-sound
returns-in-Ok-clause-sound g c =
    let file = g.D.Device.seen c.args.self.now.log.device in
    let lines = lines_of c.args.group.now in
    let rows = rows_of c.args.self.now in
    let added = c.in-Ok.ensures.lines ∙ ap (λ (t : List ℕ). recovered file ++ open_lines t) c.as_slice.ensures.value in
    record {
      settled = λ is_open. c.in-Ok.ensures.accepted;
      rows = λ is_open.
          let s = c.requires.staged is_open in
          rows_of_lines g.P.Policy.policy _ (recovered file ++ open_lines lines) rows added (with_group g.P.Policy.policy file lines (rows_in g.P.Policy.policy file) rows s.file s.table);
    }

pub returns-in-Ok-clause-any_moment : goal.returns-in-Ok-clause-any_moment
returns-in-Ok-clause-any_moment g c = λ is_open.
    let s = c.requires.staged is_open in
    let log = c.args.self.now.log in
    let file = g.D.Device.seen log.device in
    let lines = lines_of c.args.group.now in
    let rows = rows_of c.args.self.now in
    let P : List ℕ → Type 0 = λ f. StandsFor g.P.Policy.policy (rows_in g.P.Policy.policy file) f ⊎ StandsFor g.P.Policy.policy rows f in
    weaker g.D.Device.moment g.D.Device.left_since log.device c.put.new.self.device (IsBeforeOrAfter (recovered file) (open_lines lines)) P
    (rw c.as_slice.ensures.value at c.put.ensures.any_moment)
    (either g.P.Policy.policy file lines (rows_in g.P.Policy.policy file) rows s.file s.table)

pub returns-in-Err-clause-any_moment : goal.returns-in-Err-clause-any_moment
returns-in-Err-clause-any_moment g c = λ is_open.
    let s = c.requires.staged is_open in
    let log = c.args.self.now.log in
    let file = g.D.Device.seen log.device in
    let lines = lines_of c.args.group.now in
    let rows = rows_of c.args.self.now in
    let P : List ℕ → Type 0 = λ f. StandsFor g.P.Policy.policy (rows_in g.P.Policy.policy file) f ⊎ StandsFor g.P.Policy.policy rows f in
    weaker g.D.Device.moment g.D.Device.left_since log.device c.put.new.self.device (IsBeforeOrAfter (recovered file) (open_lines lines)) P
    (rw c.as_slice.ensures.value at c.put.ensures.any_moment)
    (either g.P.Policy.policy file lines (rows_in g.P.Policy.policy file) rows s.file s.table)

pub returns-in-Ok-clause-size : goal.returns-in-Ok-clause-size
returns-in-Ok-clause-size g c = λ is_open.
    let s = c.requires.staged is_open in
    let file = g.D.Device.seen c.args.self.now.log.device in
    let added = c.in-Ok.ensures.lines ∙ ap (λ (t : List ℕ). recovered file ++ open_lines t) c.as_slice.ensures.value in
    grown file (g.D.Device.seen c.put.new.self.device) (lines_of c.args.group.now) c.args.self.now.log.end c.put.new.self.end
    s.settled.place c.in-Ok.ensures.accepted.place added s.whole
