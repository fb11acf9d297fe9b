use Rattle.std.proofs.Common.{refl}
use Rattle.line_program.specs.Rules.{from_state}
use Rattle.line_program.proofs.RuleLaws.{each_by_itself}
use Rattle.line_program.proofs.Told.{outcome_as}
use Rattle.shadow_check.specs.Lines.{any_line_rules}
use Rattle.shadow_check.specs.LineRules.{any_state_rules}
use Rattle.shadow_check.proofs.lines.run_any.Goals as goal

pub returns : goal.returns
returns g c = record {
  told = record {
    statuses = c.run_lines.ensures.statuses;
    read_fault = c.run_lines.ensures.read_fault;
    write_fault = c.run_lines.ensures.write_fault;
    outcome = rw (← c.new-lines.ensures.limits)
        (outcome_as (from_state any_state_rules c.new-lines.result) (any_line_rules c.new-lines.result.check.limits)
        (each_by_itself any_state_rules c.new-lines.result (λ l. refl)) c.run_lines.result c.args.max _ _ _ _
        c.run_lines.ensures.outcome);
  };
}
