use Rattle.std.proofs.Common.{◌≡◌, ◌⊎◌, ℕ, ◌+◌, List, length, refl, ap, arith, subst, true, Ok, Err}
use Rattle.pw_file.specs.Answers.{upgrade_may_lack}
use Rattle.pw_file.specs.Calls.{with_text}
use Rattle.pw_file.specs.History.{text_in}
use Rattle.pw_store.specs.Progress.{held_by}
use Rattle.pw_store.specs.Staged.{lines_of}
use Rattle.pw_store.specs.Store.{StandsFor}
use Rattle.pw_store.specs.Stored.{IsStored, rows_of, size_of, stored_upgrade, takes_changes}
use Rattle.pw_store.proofs.Serving.{base_rows, left_now, size_with, upgrade_answered, upgrade_refused}
use Rattle.pw_store.proofs.store.Store.serve_upgrade.Goals as goal

pub returns-in-Ok-clause-served : goal.returns-in-Ok-clause-served
returns-in-Ok-clause-served g c = λ line asks from asked all so_far.
    let user = c.args.user.now in
    let salt = c.args.salt.now in
    let password = c.args.password.now in
    let store = c.commit.new.self in
    let now = c.upgrade.new.self in
    let none : length (lines_of c.commit.new.group) ≡ 0 = ap length c.commit.ensures.lines in
    let end : size_of store ≡ size_of store + length (lines_of c.commit.new.group) = omega (arith, none) in
    let after = c.commit.ensures.goes_on from asked all so_far in
    upgrade_answered g.P.Policy.policy g.D.Device.seen g.D.Device.may_leave g.D.Device.moment g.D.Device.left_since g.D.Device.faults from asked
    (held_by store c.commit.new.group) c.commit.new.out (g.K.Sink.written c.commit.new.sink) (g.K.Sink.faults c.commit.new.sink) all after c.commit.ensures.none
    line user salt password asks
    (λ opened. base_rows g.P.Policy.policy (g.D.Device.seen store.log.device) (rows_of store) (c.commit.ensures.sound.rows opened))
    (held_by now c.commit.new.group) refl c.put_verdict.new.out (g.K.Sink.written c.put_verdict.new.sink) (g.K.Sink.faults c.put_verdict.new.sink) c.upgrade.ensures.count
    (upgrade_may_lack g.P.Policy.policy (text_in (rows_of store) user) password salt) c.in-Ok.matches
    (subst (λ (n : ℕ). IsStored (stored_upgrade g.P.Policy.policy (takes_changes store) (rows_of store) n user password salt) (upgrade_may_lack g.P.Policy.policy (text_in (rows_of store) user) password salt)
    (Ok true) (g.D.Device.faults store.log.device) (g.D.Device.faults now.log.device) (Ok c.in-Ok.matches)) end c.in-Ok.ensures.answer)
    refl c.in-Ok.ensures.takes c.in-Ok.ensures.rows
    (λ still. size_with g.P.Policy.policy user password salt (size_of store) (size_of now) (length (lines_of c.commit.new.group)) (Ok c.in-Ok.matches) none (c.in-Ok.ensures.size still))
    (λ still. base_rows g.P.Policy.policy (g.D.Device.seen now.log.device) (rows_of now) (c.upgrade.ensures.sound.rows still))
    c.upgrade.ensures.any_moment c.in-Ok.ensures.unwritten c.put_verdict.ensures.puts

pub returns-in-Err-clause-served : goal.returns-in-Err-clause-served
returns-in-Err-clause-served g c = λ line asks from asked all so_far.
    let user = c.args.user.now in
    let salt = c.args.salt.now in
    let password = c.args.password.now in
    let store = c.commit.new.self in
    let now = c.upgrade.new.self in
    let none : length (lines_of c.commit.new.group) ≡ 0 = ap length c.commit.ensures.lines in
    let end : size_of store ≡ size_of store + length (lines_of c.commit.new.group) = omega (arith, none) in
    let after = c.commit.ensures.goes_on from asked all so_far in
    let P : List ℕ → Type 0 = λ f. StandsFor g.P.Policy.policy (rows_of store) f ⊎ StandsFor g.P.Policy.policy (with_text (rows_of store) user (g.P.Policy.policy.fresh password salt)) f in
    upgrade_refused g.P.Policy.policy g.D.Device.seen g.D.Device.may_leave g.D.Device.moment g.D.Device.left_since g.D.Device.faults from asked
    (held_by store c.commit.new.group) c.commit.new.out (g.K.Sink.written c.commit.new.sink) (g.K.Sink.faults c.commit.new.sink) all after c.commit.ensures.none
    line user salt password asks
    (λ opened. base_rows g.P.Policy.policy (g.D.Device.seen store.log.device) (rows_of store) (c.commit.ensures.sound.rows opened))
    (held_by now c.commit.new.group) refl c.put_refusal.new.out (g.K.Sink.written c.put_refusal.new.sink) (g.K.Sink.faults c.put_refusal.new.sink) c.upgrade.ensures.count
    (takes_changes store) refl (upgrade_may_lack g.P.Policy.policy (text_in (rows_of store) user) password salt) c.in-Err.e c.put_refusal.result
    (subst (λ (n : ℕ). IsStored (stored_upgrade g.P.Policy.policy (takes_changes store) (rows_of store) n user password salt) (upgrade_may_lack g.P.Policy.policy (text_in (rows_of store) user) password salt)
    (Ok true) (g.D.Device.faults store.log.device) (g.D.Device.faults now.log.device) (Err c.in-Err.e)) end c.in-Err.ensures.answer)
    refl c.in-Err.ensures.takes c.in-Err.ensures.rows
    (λ still. size_with g.P.Policy.policy user password salt (size_of store) (size_of now) (length (lines_of c.commit.new.group)) (Err c.in-Err.e) none (c.in-Err.ensures.size still))
    c.upgrade.ensures.any_moment
    (λ opened. left_now g.D.Device.moment g.D.Device.may_leave g.D.Device.left_since g.met.D.Device.counts_now store.log.device now.log.device P (c.upgrade.ensures.any_moment opened))
    c.in-Err.ensures.unwritten c.upgrade.ensures.closed
    c.refusal_word.result c.refusal_word.ensures.word c.put_refusal.ensures.puts c.put_refusal.ensures.answer
