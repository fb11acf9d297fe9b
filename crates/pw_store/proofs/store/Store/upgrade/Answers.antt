use Rattle.std.proofs.Common.{◌⊎◌, inl, ℕ, List, Err, Ok, false, sym, ap, ◌∙◌, subst}
use Rattle.line_log.proofs.Moments.{started}
use Rattle.pw_file.specs.Calls.{with_text}
use Rattle.pw_file.specs.History.{IsContentOf, Rows, text_in}
use Rattle.pw_file.proofs.Calls.{upgrade_content}
use Rattle.pw_file.proofs.TableAnswers.{false_is_not_true, upgrade_matched}
use Rattle.pw_file.proofs.Cuts.{salt_has_no_tab}
use Rattle.pw_store.proofs.Changing.{refused_upgrade, upgrade_done}
use Rattle.pw_store.specs.declared.error.StoreError.TheVariants.{Table}
use Rattle.pw_store.specs.Store.{StandsFor}
use Rattle.pw_store.specs.Stored.{after_store_upgrade, rows_of, size_after, size_of}
use Rattle.pw_store.proofs.Grouped.{rest_left}
use Rattle.pw_store.proofs.store.Store.upgrade.Goals as goal

pub returns-in-Ok-None-clause-any_moment : goal.returns-in-Ok-None-clause-any_moment
returns-in-Ok-None-clause-any_moment g c = λ is_open.
    let log = c.args.self.now.log in
    let rows = rows_of c.args.self.now in
    let P : List ℕ → Type 0 = λ f. StandsFor g.P.Policy.policy rows f ⊎ StandsFor g.P.Policy.policy (with_text rows c.args.user.now (g.P.Policy.policy.fresh c.args.password.now c.args.salt.now)) f in
    started g.D.Device.moment g.D.Device.left_since log.device P
    (λ f left. inl (rest_left g.P.Policy.policy g.D.Device.seen g.D.Device.may_leave log rows (c.requires.sound.settled is_open) (c.requires.sound.rows is_open) f (g.met.D.Device.only_now log.device f left)))

pub returns-clause-any_moment : goal.returns-clause-any_moment
returns-clause-any_moment g c = λ is_open.
    let log = c.args.self.now.log in
    let rows = rows_of c.args.self.now in
    let P : List ℕ → Type 0 = λ f. StandsFor g.P.Policy.policy rows f ⊎ StandsFor g.P.Policy.policy (with_text rows c.args.user.now (g.P.Policy.policy.fresh c.args.password.now c.args.salt.now)) f in
    started g.D.Device.moment g.D.Device.left_since log.device P
    (λ f left. inl (rest_left g.P.Policy.policy g.D.Device.seen g.D.Device.may_leave log rows (c.requires.sound.settled is_open) (c.requires.sound.rows is_open) f (g.met.D.Device.only_now log.device f left)))

pub returns-in-Ok-clause-content : goal.returns-in-Ok-clause-content
returns-in-Ok-clause-content g c = λ h held.
    let rows = rows_of c.args.self.now in
    let user = c.args.user.now in
    let password = c.args.password.now in
    let salt = c.args.salt.now in
    let matched = rw c.in-Ok-Some.field-0-is at c.in-Ok-Some.ensures.answer in
    let text = rw c.in-Ok-Some.field-0-is at c.in-Ok-Some.ensures.text in
    let parts = upgrade_matched g.P.Policy.policy g.met.P.Policy.lawful (text_in rows user) password salt matched in
    let name = rw c.as_str-name.ensures.text at c.as_str-name.ensures.name in
    upgrade_done g.P.Policy.policy g.met.P.Policy.lawful h rows (rows_of c.set.new.self) user password salt
    (c.in-Ok.ensures.rows ∙ ap (with_text rows user) (c.deref.ensures ∙ text)) name (salt_has_no_tab salt (g.met.P.Policy.lawful.salt_taken salt parts.2)) c.utf8.salt c.utf8.password held

pub returns-in-Ok-Some-clause-content : goal.returns-in-Ok-Some-clause-content
returns-in-Ok-Some-clause-content g c = λ h held.
    let rows = rows_of c.args.self.now in
    subst (λ (r : Rows). IsContentOf g.P.Policy.policy (after_store_upgrade h c.args.user.now c.args.password.now c.args.salt.now (Err c.in-Err-set.e)) r)
    (sym c.in-Err-set.ensures.rows)
    (refused_upgrade g.P.Policy.policy g.met.P.Policy.lawful h rows c.args.user.now c.args.password.now c.args.salt.now c.in-Err-set.e c.utf8.salt c.utf8.password held)

pub returns-in-Ok-None-clause-content : goal.returns-in-Ok-None-clause-content
returns-in-Ok-None-clause-content g c = λ h held.
    upgrade_content g.P.Policy.policy g.met.P.Policy.lawful h (rows_of c.args.self.now) c.args.user.now held c.args.password.now c.args.salt.now (Ok false) c.utf8.salt
    c.utf8.password (λ is. absurd (false_is_not_true is))

pub returns-clause-content : goal.returns-clause-content
returns-clause-content g c = λ h held.
    refused_upgrade g.P.Policy.policy g.met.P.Policy.lawful h (rows_of c.args.self.now) c.args.user.now c.args.password.now c.args.salt.now (Table c.in-Err.e) c.utf8.salt
    c.utf8.password held

pub returns-in-Ok-clause-size : goal.returns-in-Ok-clause-size
returns-in-Ok-clause-size g c = λ still.
    let text = rw c.in-Ok-Some.field-0-is at c.in-Ok-Some.ensures.text in
    c.in-Ok.ensures.size still ∙ ap (size_after (size_of c.args.self.now) c.args.user.now) (c.deref.ensures ∙ text)
