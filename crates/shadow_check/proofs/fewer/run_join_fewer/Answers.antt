use Rattle.pieces.proofs.RisenCounts.{risen_since}
use Rattle.shadow_check.proofs.Runs.{fewer_end, users_end}
use Rattle.shadow_check.proofs.fewer.run_join_fewer.Goals as goal

pub returns-then-status-gt-SOME_OTHER-clause-outcome : goal.returns-then-status-gt-SOME_OTHER-clause-outcome
returns-then-status-gt-SOME_OTHER-clause-outcome g c =
    users_end (g.J.Joining.join_rules c.args.joining.now) c.load_passwords-status.new.loading.passwords c.load_passwords-status.result c.args.max
    c.if-status-gt-SOME_OTHER.true _ _ _ _ _ _ c.load_passwords-status.ensures.told.outcome

pub returns-clause-write_fault : goal.returns-clause-write_fault
returns-clause-write_fault g c =
    λ h. risen_since _ _ _ c.load_passwords-status.ensures.count (c.join_wanted.ensures.write_fault h)

pub returns-clause-outcome : goal.returns-clause-outcome
returns-clause-outcome g c =
    fewer_end (g.J.Joining.join_rules c.args.joining.now) c.load_passwords-status.new.loading.passwords c.load_passwords-status.result c.args.max
    c.join_wanted.result c.if-status-gt-SOME_OTHER.false _ _ _ _ _ _ _ _ c.load_passwords-status.ensures.told.outcome
    c.join_wanted.ensures.outcome
