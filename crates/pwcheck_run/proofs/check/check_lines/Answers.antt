use Rattle.std.proofs.Common.{refl}
use Rattle.line_program.specs.Rules.{from_state}
use Rattle.line_program.proofs.RuleLaws.{each_by_itself}
use Rattle.line_program.proofs.Told.{outcome_as}
use Rattle.pwcheck_run.specs.Answer.{line_rules}
use Rattle.pwcheck_run.specs.Check.{check_rules}
use Rattle.pwcheck_run.specs.declared.checker.Checker.{Checker}
use Rattle.pwcheck_run.proofs.check.check_lines.Goals as goal

pub returns-clause-outcome : goal.returns-clause-outcome
returns-clause-outcome g c =
    let checker : Checker = record { alloc = c.args.alloc; form = c.args.form; kdf = c.new.result } in
    outcome_as (from_state check_rules checker) (line_rules c.args.form)
    (each_by_itself check_rules checker (λ l. refl)) c.run_lines.result c.args.max _ _ _ _
    c.run_lines.ensures.outcome
