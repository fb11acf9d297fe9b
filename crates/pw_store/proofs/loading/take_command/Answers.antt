use Rattle.std.proofs.Common.{refl, sym, Some}
use Rattle.pw_file.specs.Answers.{check_answer, upgrade_answer}
use Rattle.pw_file.specs.Commands as of
use Rattle.pw_file.specs.History.{text_in}
use Rattle.pw_store.proofs.Lines.{no_check, no_upgrade, not_taken, refused_away, refused_taken, removal_done, taken_done}
use Rattle.pw_store.proofs.loading.take_command.Goals as goal

pub returns-in-Ok-clause-taken : goal.returns-in-Ok-clause-taken
returns-in-Ok-clause-taken g c = λ line asks.
    let asked = rw c.in-Set.is at asks in
    sym (taken_done g.P.Policy.policy c.args.table.now c.set.new.self line c.in-Set.user c.in-Set.text.now asked c.in-Ok.ensures.answer c.in-Ok.ensures.rows).0

pub returns-in-Ok-clause-after : goal.returns-in-Ok-clause-after
returns-in-Ok-clause-after g c = λ line asks taken.
    let asked = rw c.in-Set.is at asks in
    (taken_done g.P.Policy.policy c.args.table.now c.set.new.self line c.in-Set.user c.in-Set.text.now asked c.in-Ok.ensures.answer c.in-Ok.ensures.rows).1

pub returns-in-Err-clause-taken : goal.returns-in-Err-clause-taken
returns-in-Err-clause-taken g c = λ line asks.
    let asked = rw c.in-Set.is at asks in
    refused_taken g.P.Policy.policy c.args.table.now line c.in-Set.user c.in-Set.text.now c.in-Err.e c.refusal.result asked c.in-Err.ensures.answer
    c.refusal.ensures.refused c.refusal.ensures.known

pub returns-in-Check-clause-taken : goal.returns-in-Check-clause-taken
returns-in-Check-clause-taken g c = λ line asks.
    let asked = rw c.in-Check.is at asks in
    sym (not_taken g.P.Policy.policy c.args.table.now line (Some (of.Check c.in-Check.user c.in-Check.password.now)) asked.1 (no_check g.P.Policy.policy (check_answer g.P.Policy.policy (text_in c.args.table.now c.in-Check.user) c.in-Check.password.now)))

pub returns-in-Upgrade-clause-taken : goal.returns-in-Upgrade-clause-taken
returns-in-Upgrade-clause-taken g c = λ line asks.
    let asked = rw c.in-Upgrade.is at asks in
    sym (not_taken g.P.Policy.policy c.args.table.now line (Some (of.Upgrade c.in-Upgrade.user c.in-Upgrade.salt.now c.in-Upgrade.password.now)) asked.1
    (no_upgrade g.P.Policy.policy (upgrade_answer g.P.Policy.policy (text_in c.args.table.now c.in-Upgrade.user) c.in-Upgrade.password.now c.in-Upgrade.salt.now)))

pub returns-in-List-clause-taken : goal.returns-in-List-clause-taken
returns-in-List-clause-taken g c = λ line asks.
    let asked = rw c.in-List.is at asks in
    sym (not_taken g.P.Policy.policy c.args.table.now line (Some of.Listing) asked.1 refl)

pub returns-in-Ok-remove-clause-taken : goal.returns-in-Ok-remove-clause-taken
returns-in-Ok-remove-clause-taken g c = λ line asks.
    let asked = rw c.in-Remove.is at asks in
    sym (removal_done g.P.Policy.policy c.args.table.now c.remove.new.self line c.in-Remove.user asked c.in-Ok-remove.ensures.answer c.in-Ok-remove.ensures.rows).0

pub returns-in-Ok-remove-clause-after : goal.returns-in-Ok-remove-clause-after
returns-in-Ok-remove-clause-after g c = λ line asks taken.
    let asked = rw c.in-Remove.is at asks in
    (removal_done g.P.Policy.policy c.args.table.now c.remove.new.self line c.in-Remove.user asked c.in-Ok-remove.ensures.answer c.in-Ok-remove.ensures.rows).1

pub returns-in-Err-remove-clause-taken : goal.returns-in-Err-remove-clause-taken
returns-in-Err-remove-clause-taken g c = λ line asks.
    let asked = rw c.in-Remove.is at asks in
    refused_away g.P.Policy.policy c.args.table.now line c.in-Remove.user c.in-Err-remove.e c.refusal-in-Err-remove.result asked c.in-Err-remove.ensures.answer
    c.refusal-in-Err-remove.ensures.refused
