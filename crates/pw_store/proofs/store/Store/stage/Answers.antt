use Rattle.std.proofs.Common.{rules, ◌≡◌, ℕ, ◌+◌, ◌≤◌, List, [], ◌++◌, ◌∷◌, true, length, length-append, refl, ◌∙◌, ap, arith, Option}
use Rattle.std.specs.Prelude.{nat_le}
use Rattle.std.proofs.lemmas.Bool.Decides.{nat_tests}
use Rattle.line_log.specs.Log.{file_max, group_max}
use Rattle.pw_file.specs.Calls.{with_text}
use Rattle.pw_file.specs.History.{text_in}
use Rattle.pw_file.specs.Replies.{row_line}
use Rattle.pw_store.specs.Staged.{lines_of, undo_of}
use Rattle.pw_store.specs.Stored.{rows_of, size_of, takes_changes}
use Rattle.pw_store.proofs.Changing.{back_again, exchanged, refused_answer, staged_as}
use Rattle.pw_store.proofs.Grouped.{staged_more}
use Rattle.pw_store.proofs.store.Store.stage.Goals as goal

pub returns-in-Err-clause-answer : goal.returns-in-Err-clause-answer
returns-in-Err-clause-answer g c =
    let is_open : takes_changes c.args.self.now ≡ true = search rules in
    refused_answer g.P.Policy.policy (takes_changes c.args.self.now) (rows_of c.args.self.now) (size_of c.args.self.now + length (lines_of c.args.group.now)) c.args.user.now c.args.text.now c.in-Err.e
    is_open c.in-Err.ensures.answer

pub returns-then-not-has_room-clause-same_rows : goal.returns-then-not-has_room-clause-same_rows
returns-then-not-has_room-clause-same_rows g c =
    let rows = rows_of c.args.self.now in
    let ex = exchanged g.P.Policy.policy c.args.user.now c.args.text.now (text_in rows c.args.user.now) (length rows) _ c.in-Ok.replaced c.in-Ok.ensures.answer in
    back_again rows c.exchange.new.self c.put_back.new.self c.args.user.now c.args.text.now c.in-Ok.replaced ex.0 c.in-Ok.ensures.rows c.put_back.ensures.back

pub returns-then-not-has_room-clause-staged : goal.returns-then-not-has_room-clause-staged
returns-then-not-has_room-clause-staged g c = λ s.
    let same = returns-then-not-has_room-clause-same_rows g c in
    staged_as g.P.Policy.policy g.D.Device.seen g.D.Device.may_leave c.args.self.now.log (lines_of c.args.group.now) (lines_of c.args.group.now) (undo_of c.args.group.now) (undo_of c.args.group.now)
    (rows_of c.args.self.now) c.put_back.new.self refl refl same s

pub returns-in-Ok-push-clause-staged : goal.returns-in-Ok-push-clause-staged
returns-in-Ok-push-clause-staged g c = λ s.
    let rows = rows_of c.args.self.now in
    let lines = lines_of c.args.group.now in
    let user = c.args.user.now in
    let text = c.args.text.now in
    let ex = exchanged g.P.Policy.policy user text (text_in rows user) (length rows) _ c.in-Ok.replaced c.in-Ok.ensures.answer in
    let name = rw c.as_str-name.ensures.text at c.as_str-name.ensures.name in
    let row_is : c.as_slice.result.now ≡ row_line (user, text) = c.as_slice.ensures.value ∙ c.line_of_row-line.ensures.line in
    let row_few : length c.as_slice.result.now ≤ 1094 = c.as_slice.ensures.fits in
    let size : length (lines ++ row_line (user, text)) ≡ length lines + length (row_line (user, text)) = length-append lines (row_line (user, text)) in
    let space = c.requires.room in
    let short : length (lines ++ row_line (user, text)) ≤ group_max = omega (arith, size, row_few, ap length row_is, space) in
    let test : nat_le (size_of c.args.self.now + length lines + length (row_line (user, text))) file_max ≡ true = search rules in
    let fits : size_of c.args.self.now + length lines + length (row_line (user, text)) ≤ file_max = grind (arith, nat_tests, test) in
    let room : size_of c.args.self.now + length (lines ++ row_line (user, text)) ≤ file_max = omega (arith, size, fits) in
    staged_as g.P.Policy.policy g.D.Device.seen g.D.Device.may_leave c.args.self.now.log (lines ++ row_line (user, text)) (lines_of c.push.new.self)
    (undo_of c.args.group.now ++ (user, text_in rows user) ∷ []) (undo_of c.push.new.self) (with_text rows user text) c.exchange.new.self
    (c.in-Ok-push.ensures.lines ∙ ap (λ (t : List ℕ). lines ++ t) row_is)
    (c.in-Ok-push.ensures.undo ∙ ap (λ (r : List ℕ × Option (List ℕ)). undo_of c.args.group.now ++ r ∷ []) ex.0)
    c.in-Ok.ensures.rows
    (staged_more g.P.Policy.policy g.met.P.Policy.lawful g.D.Device.seen g.D.Device.may_leave c.args.self.now.log lines (undo_of c.args.group.now) rows user text name ex.1 s short room)

pub returns-in-Err-push-clause-same_rows : goal.returns-in-Err-push-clause-same_rows
returns-in-Err-push-clause-same_rows g c =
    let rows = rows_of c.args.self.now in
    let ex = exchanged g.P.Policy.policy c.args.user.now c.args.text.now (text_in rows c.args.user.now) (length rows) _ c.in-Ok.replaced c.in-Ok.ensures.answer in
    back_again rows c.exchange.new.self c.put_back-in-Err-push.new.self c.args.user.now c.args.text.now c.in-Err-push.replaced (c.in-Err-push.ensures.back ∙ ex.0) c.in-Ok.ensures.rows
    c.put_back-in-Err-push.ensures.back

pub returns-in-Err-push-clause-staged : goal.returns-in-Err-push-clause-staged
returns-in-Err-push-clause-staged g c = λ s.
    let same = returns-in-Err-push-clause-same_rows g c in
    staged_as g.P.Policy.policy g.D.Device.seen g.D.Device.may_leave c.args.self.now.log (lines_of c.args.group.now) (lines_of c.push.new.self) (undo_of c.args.group.now) (undo_of c.push.new.self)
    (rows_of c.args.self.now) c.put_back-in-Err-push.new.self c.in-Err-push.ensures.same_lines c.in-Err-push.ensures.same_undo same s
