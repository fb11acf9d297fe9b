use Rattle.pieces.proofs.RisenCounts.{risen_since}
use Rattle.shadow_check.proofs.Runs.{no_texts_end, told_end}
use Rattle.shadow_check.proofs.no_text.run_no_text.Goals as goal

pub returns-then-status-gt-SOME_OTHER-clause-outcome : goal.returns-then-status-gt-SOME_OTHER-clause-outcome
returns-then-status-gt-SOME_OTHER-clause-outcome g c =
    no_texts_end c.load_passwords-status.new.loading.passwords c.load_passwords-status.result c.args.max
    c.if-status-gt-SOME_OTHER.true _ _ _ _ _ c.load_passwords-status.ensures.told.outcome

pub returns-clause-statuses : goal.returns-clause-statuses
returns-clause-statuses g c = c.tell_users.ensures.told.statuses

pub returns-clause-passwords_fault : goal.returns-clause-passwords_fault
returns-clause-passwords_fault g c = λ h. c.tell_users.ensures.told.read_fault cc

pub returns-clause-write_fault : goal.returns-clause-write_fault
returns-clause-write_fault g c =
    λ h. risen_since _ _ _ c.load_passwords-status.ensures.count (c.tell_users.ensures.told.write_fault h)

pub returns-clause-outcome : goal.returns-clause-outcome
returns-clause-outcome g c =
    told_end c.load_passwords-status.new.loading.passwords c.load_passwords-status.result c.args.max
    c.tell_users.result c.if-status-gt-SOME_OTHER.false _ _ _ _ _ _ _ c.load_passwords-status.ensures.told.outcome
    c.tell_users.ensures.told.outcome
