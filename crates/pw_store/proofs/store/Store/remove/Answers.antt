use Rattle.std.proofs.Common.{rules, ◌≡◌, ◌⊎◌, inl, inr, ℕ, ◌+◌, ◌≤◌, List, ◌∷◌, ◌++◌, [], length, length-append, true, false, Ok, Err, Some, None, refl, sym, ap, ◌∙◌, arith}
use Rattle.std.specs.Prelude.{nat_le}
use Rattle.line_log.specs.Log.{IsBeforeOrAfter, file_max, open_lines, recovered}
use Rattle.line_log.proofs.Moments.{started, weaker}
use Rattle.pw_file.specs.Answers.{remove_answer}
use Rattle.pw_file.specs.Calls.{rows_after_remove, without}
use Rattle.pw_file.specs.History.{Rows, text_in}
use Rattle.pw_file.specs.declared.error.FileError.TheVariants.{NoUser}
use Rattle.pw_store.specs.declared.error.StoreError.TheVariants.{Table}
use Rattle.pw_store.specs.Store.{StandsFor, removal_line}
use Rattle.pw_store.specs.Stored.{removal_text, rows_of, size_changed, size_of, takes_changes}
use Rattle.pw_store.proofs.Changing.{is_away, is_there, refused_remove, remove_done, removal_answer, removal_room}
use Rattle.pw_store.proofs.Grouped.{either, grown, removal_opens, removal_whole, rest_left, rows_of_lines, with_group}
use Rattle.pw_store.proofs.store.Store.remove.Goals as goal

-- ---- the line is a group

pub put-requires-clause-settled : goal.put-requires-clause-settled
put-requires-clause-settled g c = c.requires.sound.settled (search rules)

pub put-requires-clause-group : goal.put-requires-clause-group
put-requires-clause-group g c =
    let p = g.P.Policy.policy in
    let law = g.met.P.Policy.lawful in
    let user = c.args.user.now in
    let rows = rows_of c.args.self.now in
    let name = rw c.as_str-name.ensures.text at c.as_str-name.ensures.name in
    let there : remove_answer p (text_in rows user) ≡ Ok tt = ap (remove_answer p) (sym c.get.ensures.text) ∙ is_there p c.get.result (search rules) in
    let bytes = c.as_slice.ensures.value ∙ c.line_of_removal-line.ensures.line in
    let short : length user ≤ 64 = law.name_short user name in
    let size : length (removal_text user) ≡ length (removal_line user) + 1 = length-append (removal_line user) (10 ∷ []) in
    rw bytes (record {
      whole = removal_whole p law rows user name c.requires.takes there;
      some = omega (arith, size);
      short = omega (arith, size, short);
    })

-- ---- refusals

pub returns-then-is_none-clause-answer : goal.returns-then-is_none-clause-answer
returns-then-is_none-clause-answer g c =
    let p = g.P.Policy.policy in
    inl (sym (removal_answer p (takes_changes c.args.self.now) (rows_of c.args.self.now) (size_of c.args.self.now) c.args.user.now (Err NoUser) (search rules)
    (ap (remove_answer p) (sym c.get.ensures.text) ∙ is_away p c.get.result (search rules))))

pub returns-then-is_none-clause-content : goal.returns-then-is_none-clause-content
returns-then-is_none-clause-content g c = λ h held.
    refused_remove g.P.Policy.policy g.met.P.Policy.lawful h (rows_of c.args.self.now) c.args.user.now (Table NoUser) c.requires.takes held

pub returns-then-is_none-clause-any_moment : goal.returns-then-is_none-clause-any_moment
returns-then-is_none-clause-any_moment g c = λ is_open.
    let log = c.args.self.now.log in
    let rows = rows_of c.args.self.now in
    let P : List ℕ → Type 0 = λ f. StandsFor g.P.Policy.policy rows f ⊎ StandsFor g.P.Policy.policy (without rows c.args.user.now) f in
    started g.D.Device.moment g.D.Device.left_since log.device P
    (λ f left. inl (rest_left g.P.Policy.policy g.D.Device.seen g.D.Device.may_leave log rows (c.requires.sound.settled is_open) (c.requires.sound.rows is_open) f (g.met.D.Device.only_now log.device f left)))

pub returns-then-not-has_room-clause-answer : goal.returns-then-not-has_room-clause-answer
returns-then-not-has_room-clause-answer g c =
    let p = g.P.Policy.policy in
    let rows = rows_of c.args.self.now in
    let user = c.args.user.now in
    let size = size_of c.args.self.now in
    let there : remove_answer p (text_in rows user) ≡ Ok tt = ap (remove_answer p) (sym c.get.ensures.text) ∙ is_there p c.get.result (search rules) in
    let room : nat_le (size_changed size user None) file_max ≡ false = search rules in
    inl (sym (removal_room p (takes_changes c.args.self.now) rows size user (search rules) there false room))

pub returns-then-not-has_room-clause-any_moment : goal.returns-then-not-has_room-clause-any_moment
returns-then-not-has_room-clause-any_moment g c = λ is_open.
    let log = c.args.self.now.log in
    let rows = rows_of c.args.self.now in
    let P : List ℕ → Type 0 = λ f. StandsFor g.P.Policy.policy rows f ⊎ StandsFor g.P.Policy.policy (without rows c.args.user.now) f in
    started g.D.Device.moment g.D.Device.left_since log.device P
    (λ f left. inl (rest_left g.P.Policy.policy g.D.Device.seen g.D.Device.may_leave log rows (c.requires.sound.settled is_open) (c.requires.sound.rows is_open) f (g.met.D.Device.only_now log.device f left)))

-- ---- done

pub returns-in-Ok-clause-answer : goal.returns-in-Ok-clause-answer
returns-in-Ok-clause-answer g c =
    let p = g.P.Policy.policy in
    let rows = rows_of c.args.self.now in
    let user = c.args.user.now in
    let size = size_of c.args.self.now in
    let there : remove_answer p (text_in rows user) ≡ Ok tt = ap (remove_answer p) (sym c.get.ensures.text) ∙ is_there p c.get.result (search rules) in
    let room : nat_le (size_changed size user None) file_max ≡ true = search rules in
    inl (sym (removal_room p (takes_changes c.args.self.now) rows size user (search rules) there true room))

pub returns-in-Ok-clause-rows : goal.returns-in-Ok-clause-rows
returns-in-Ok-clause-rows g c =
    let p = g.P.Policy.policy in
    let there = is_there p c.get.result (search rules) in
    c.remove.ensures.rows
    ∙ ap (rows_after_remove (rows_of c.args.self.now) c.args.user.now)
    (c.remove.ensures.answer ∙ ap (remove_answer p) (sym c.get.ensures.text) ∙ there)

pub returns-in-Ok-clause-content : goal.returns-in-Ok-clause-content
returns-in-Ok-clause-content g c = λ h held.
    let name = rw c.as_str-name.ensures.text at c.as_str-name.ensures.name in
    remove_done g.P.Policy.policy g.met.P.Policy.lawful h (rows_of c.args.self.now) c.remove.new.self c.args.user.now
    (returns-in-Ok-clause-rows g c) c.requires.takes name held

pub returns-in-Ok-clause-size : goal.returns-in-Ok-clause-size
returns-in-Ok-clause-size g c = λ still.
    let p = g.P.Policy.policy in
    let rows = rows_of c.args.self.now in
    let user = c.args.user.now in
    let name = rw c.as_str-name.ensures.text at c.as_str-name.ensures.name in
    let there : remove_answer p (text_in rows user) ≡ Ok tt = ap (remove_answer p) (sym c.get.ensures.text) ∙ is_there p c.get.result (search rules) in
    let bytes = c.as_slice.ensures.value ∙ c.line_of_removal-line.ensures.line in
    let file = g.D.Device.seen c.args.self.now.log.device in
    let added = c.in-Ok.ensures.lines ∙ ap (λ (t : List ℕ). recovered file ++ open_lines t) bytes in
    let settled = c.requires.sound.settled (search rules) in
    grown file (g.D.Device.seen c.put.new.self.device) (removal_text user) c.args.self.now.log.end c.put.new.self.end
    settled.place c.in-Ok.ensures.accepted.place added (removal_whole p g.met.P.Policy.lawful rows user name c.requires.takes there)

pub returns-in-Ok-clause-sound : goal.returns-in-Ok-clause-sound
returns-in-Ok-clause-sound g c =
    let p = g.P.Policy.policy in
    let rows = rows_of c.args.self.now in
    let user = c.args.user.now in
    let name = rw c.as_str-name.ensures.text at c.as_str-name.ensures.name in
    let there : remove_answer p (text_in rows user) ≡ Ok tt = ap (remove_answer p) (sym c.get.ensures.text) ∙ is_there p c.get.result (search rules) in
    let bytes = c.as_slice.ensures.value ∙ c.line_of_removal-line.ensures.line in
    let file = g.D.Device.seen c.args.self.now.log.device in
    let added = c.in-Ok.ensures.lines ∙ ap (λ (t : List ℕ). recovered file ++ open_lines t) bytes in
    let was = c.requires.sound.rows (search rules) in
    let after = removal_opens p g.met.P.Policy.lawful rows user name c.requires.takes there in
    record {
      settled = λ is_open. c.in-Ok.ensures.accepted;
      rows = λ is_open.
          rows_of_lines p _ (recovered file ++ open_lines (removal_text user)) (without rows user) added
          (with_group p file (removal_text user) rows (without rows user) was after)
          ∙ ap (λ (r : Rows). Some r) (sym (returns-in-Ok-clause-rows g c));
    }

pub returns-in-Ok-clause-any_moment : goal.returns-in-Ok-clause-any_moment
returns-in-Ok-clause-any_moment g c = λ is_open.
    let p = g.P.Policy.policy in
    let log = c.args.self.now.log in
    let rows = rows_of c.args.self.now in
    let user = c.args.user.now in
    let name = rw c.as_str-name.ensures.text at c.as_str-name.ensures.name in
    let there : remove_answer p (text_in rows user) ≡ Ok tt = ap (remove_answer p) (sym c.get.ensures.text) ∙ is_there p c.get.result (search rules) in
    let bytes = c.as_slice.ensures.value ∙ c.line_of_removal-line.ensures.line in
    let file = g.D.Device.seen log.device in
    let P : List ℕ → Type 0 = λ f. StandsFor p rows f ⊎ StandsFor p (without rows user) f in
    weaker g.D.Device.moment g.D.Device.left_since log.device c.put.new.self.device (IsBeforeOrAfter (recovered file) (open_lines (removal_text user))) P
    (rw bytes at c.put.ensures.any_moment)
    (either p file (removal_text user) rows (without rows user) (c.requires.sound.rows is_open)
    (removal_opens p g.met.P.Policy.lawful rows user name c.requires.takes there))

-- ---- a write failed

pub returns-in-Err-clause-answer : goal.returns-in-Err-clause-answer
returns-in-Err-clause-answer g c =
    let p = g.P.Policy.policy in
    let rows = rows_of c.args.self.now in
    let user = c.args.user.now in
    let size = size_of c.args.self.now in
    let there : remove_answer p (text_in rows user) ≡ Ok tt = ap (remove_answer p) (sym c.get.ensures.text) ∙ is_there p c.get.result (search rules) in
    let room : nat_le (size_changed size user None) file_max ≡ true = search rules in
    inr (inr (refl, removal_room p (takes_changes c.args.self.now) rows size user (search rules) there true room, c.in-Err.ensures.failed))

pub returns-in-Err-clause-any_moment : goal.returns-in-Err-clause-any_moment
returns-in-Err-clause-any_moment g c = λ is_open.
    let p = g.P.Policy.policy in
    let log = c.args.self.now.log in
    let rows = rows_of c.args.self.now in
    let user = c.args.user.now in
    let name = rw c.as_str-name.ensures.text at c.as_str-name.ensures.name in
    let there : remove_answer p (text_in rows user) ≡ Ok tt = ap (remove_answer p) (sym c.get.ensures.text) ∙ is_there p c.get.result (search rules) in
    let bytes = c.as_slice.ensures.value ∙ c.line_of_removal-line.ensures.line in
    let file = g.D.Device.seen log.device in
    let P : List ℕ → Type 0 = λ f. StandsFor p rows f ⊎ StandsFor p (without rows user) f in
    weaker g.D.Device.moment g.D.Device.left_since log.device c.put.new.self.device (IsBeforeOrAfter (recovered file) (open_lines (removal_text user))) P
    (rw bytes at c.put.ensures.any_moment)
    (either p file (removal_text user) rows (without rows user) (c.requires.sound.rows is_open)
    (removal_opens p g.met.P.Policy.lawful rows user name c.requires.takes there))
