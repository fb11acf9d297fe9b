use Rattle.std.proofs.Common.{rules, true, ◌++◌, ◌≡◌, ◌⊎◌, inl, inr, ⊎_elim, ℕ, ◌+◌, List, length, ◌∙◌, ap, arith, refl}
use Rattle.line_log.proofs.Moments.{started}
use Rattle.pw_file.specs.Calls.{with_text}
use Rattle.line_log.specs.declared.log.LineLog.{LineLog}
use Rattle.pw_file.specs.Replies.{row_line}
use Rattle.pw_store.specs.Staged.{lines_of}
use Rattle.pw_store.specs.Store.{StandsFor}
use Rattle.pw_store.specs.Stored.{rows_of, size_of, stored_set, takes_changes}
use Rattle.pw_store.proofs.Changing.{refused_content, set_done, staged_done}
use Rattle.pw_store.proofs.Grouped.{rest_left}
use Rattle.pw_store.proofs.store.Store.set.Goals as goal

pub returns-in-Err-clause-answer : goal.returns-in-Err-clause-answer
returns-in-Err-clause-answer g c =
    let none : length (lines_of c.new-group.result) ≡ 0 = ap length c.new-group.ensures.lines in
    let same : size_of c.args.self.now + length (lines_of c.new-group.result) ≡ size_of c.args.self.now = omega (arith, none) in
    ⊎_elim (λ is. inl (is ∙ ap (λ (n : ℕ). stored_set g.P.Policy.policy (takes_changes c.args.self.now) (rows_of c.args.self.now) n c.args.user.now c.args.text.now) same))
    (λ want. inr (inl want)) c.in-Err.ensures.answer

pub returns-in-Err-clause-content : goal.returns-in-Err-clause-content
returns-in-Err-clause-content g c = λ h held.
    rw c.in-Err.ensures.same_rows (refused_content g.P.Policy.policy g.met.P.Policy.lawful h (rows_of c.args.self.now) c.args.user.now c.args.text.now c.in-Err.e c.utf8.text held)

pub returns-in-Err-clause-any_moment : goal.returns-in-Err-clause-any_moment
returns-in-Err-clause-any_moment g c = λ is_open.
    let log = c.args.self.now.log in
    let rows = rows_of c.args.self.now in
    let P : List ℕ → Type 0 = λ f. StandsFor g.P.Policy.policy rows f ⊎ StandsFor g.P.Policy.policy (with_text rows c.args.user.now c.args.text.now) f in
    rw c.stage.ensures.log
    (started g.D.Device.moment g.D.Device.left_since log.device P
    (λ f left. inl (rest_left g.P.Policy.policy g.D.Device.seen g.D.Device.may_leave log rows (c.requires.sound.settled is_open) (c.requires.sound.rows is_open) f (g.met.D.Device.only_now log.device f left))))

pub returns-in-Ok-settle-clause-content : goal.returns-in-Ok-settle-clause-content
returns-in-Ok-settle-clause-content g c = λ h held.
    let name = rw c.as_str-name.ensures.text at c.as_str-name.ensures.name in
    set_done g.P.Policy.policy g.met.P.Policy.lawful h (rows_of c.args.self.now) (rows_of c.settle.new.self) c.args.user.now c.args.text.now
    (c.in-Ok-settle.ensures.done ∙ c.in-Ok.ensures.rows) name c.utf8.text held

pub returns-clause-answer : goal.returns-clause-answer
returns-clause-answer g c =
    let done = staged_done g.P.Policy.policy (takes_changes c.args.self.now) (rows_of c.args.self.now) (size_of c.args.self.now) (lines_of c.new-group.result) c.args.user.now c.args.text.now _
    c.new-group.ensures.lines c.in-Ok.ensures.answer in
    inr (inr (refl, done, rw c.stage.ensures.log at c.in-Err-settle.ensures.failed))

pub returns-in-Ok-settle-clause-size : goal.returns-in-Ok-settle-clause-size
returns-in-Ok-settle-clause-size g c = λ still.
    let is_open : takes_changes c.stage.new.self ≡ true = search rules in
    let more = c.in-Ok-settle.ensures.size is_open in
    let line : lines_of c.stage.new.group ≡ row_line (c.args.user.now, c.args.text.now) =
    c.in-Ok.ensures.lines ∙ ap (λ (t : List ℕ). t ++ row_line (c.args.user.now, c.args.text.now)) c.new-group.ensures.lines in
    more ∙ ap (λ (n : ℕ). n + length (lines_of c.stage.new.group)) (ap (λ (log : LineLog _). log.end) c.stage.ensures.log)
    ∙ ap (λ (t : List ℕ). size_of c.args.self.now + length t) line
