use Rattle.store_run.proofs.Told.{some_of_lines, told_of_lines}
use Rattle.store_run.proofs.table.import_users.Goals as goal

pub returns-clause-outcome : goal.returns-clause-outcome
returns-clause-outcome g c =
    told_of_lines (g.S.Source.left c.args.source) _ _ _ _ _ c.new-source.ensures.left c.serve.ensures.outcome

pub returns-clause-any_moment : goal.returns-clause-any_moment
returns-clause-any_moment g c =
    some_of_lines (g.S.Source.left c.args.source) _ _ c.new-source.ensures.left c.serve.ensures.any_moment
