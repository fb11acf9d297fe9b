use Rattle.foreign_lines.specs.Converting.{converted_line}
use Rattle.line_filter.specs.Mapped.{mapped_text}
use Rattle.store_run.proofs.Converted.{some_of_made}
use Rattle.store_run.proofs.foreign.import_foreign.Goals as goal

pub returns-clause-outcome : goal.returns-clause-outcome
returns-clause-outcome g c =
    some_of_made (mapped_text (converted_line c.args.foreign)) (g.S.Source.left c.args.source) _ _ c.new.ensures.left
    c.import_users.ensures.outcome

pub returns-clause-any_moment : goal.returns-clause-any_moment
returns-clause-any_moment g c =
    some_of_made (mapped_text (converted_line c.args.foreign)) (g.S.Source.left c.args.source) _ _ c.new.ensures.left
    c.import_users.ensures.any_moment
