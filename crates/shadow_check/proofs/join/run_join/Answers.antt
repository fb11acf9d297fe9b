use Rattle.pieces.proofs.RisenCounts.{risen_since}
use Rattle.shadow_check.proofs.Runs.{passwords_end, texts_end}
use Rattle.shadow_check.proofs.join.run_join.Goals as goal

pub returns-then-status-gt-SOME_OTHER-clause-outcome : goal.returns-then-status-gt-SOME_OTHER-clause-outcome
returns-then-status-gt-SOME_OTHER-clause-outcome g c =
    passwords_end (g.J.Joining.join_rules c.args.joining.now) c.load_passwords-status.new.loading.passwords c.load_passwords-status.result c.args.max
    c.if-status-gt-SOME_OTHER.true _ _ _ _ _ c.load_passwords-status.ensures.told.outcome

pub returns-clause-statuses : goal.returns-clause-statuses
returns-clause-statuses g c = c.join_texts.ensures.told.statuses

pub returns-clause-texts_fault : goal.returns-clause-texts_fault
returns-clause-texts_fault g c = λ h. c.join_texts.ensures.told.read_fault cc

pub returns-clause-write_fault : goal.returns-clause-write_fault
returns-clause-write_fault g c =
    λ h. risen_since _ _ _ c.load_passwords-status.ensures.count (c.join_texts.ensures.told.write_fault h)

pub returns-clause-outcome : goal.returns-clause-outcome
returns-clause-outcome g c =
    texts_end (g.J.Joining.join_rules c.args.joining.now) c.load_passwords-status.new.loading.passwords c.load_passwords-status.result c.args.max
    c.join_texts.result c.if-status-gt-SOME_OTHER.false _ _ _ _ _ _ _ c.load_passwords-status.ensures.told.outcome
    c.join_texts.ensures.told.outcome
