use Rattle.std.proofs.Common.{ap}
use Rattle.line_program.specs.Rules.{from_state}
use Rattle.line_program.proofs.RuleLaws.{each_by_itself}
use Rattle.line_program.proofs.Told.{outcome_as}
use Rattle.shadow_check.specs.UserRules.{user_state_rules}
use Rattle.shadow_check.specs.declared.users.UserLines.{UserLines}
use Rattle.foreign_lines.specs.Handed.{handed}
use Rattle.foreign_lines.specs.Rules.{foreign_state}
use Rattle.foreign_lines.specs.Runs.{foreign_user_rules}
use Rattle.foreign_lines.specs.declared.lines.ForeignLines.{ForeignLines}
use Rattle.foreign_lines.specs.declared.parts.LineForm.TheVariants.{UserPassword}
use Rattle.foreign_lines.proofs.Handing.{stays}
use Rattle.foreign_lines.proofs.runs.run_foreign_users.Goals as goal

pub returns : goal.returns
returns g c =
    let inner : UserLines = record { lines = c.new.result } in
    let lines : ForeignLines UserLines = record { foreign = c.args.foreign; form = UserPassword; inner = inner } in
    let state = foreign_state (λ (s : ForeignLines UserLines). s.foreign) (λ s. s.form) (λ s. s.inner)
    (λ s i. record s { inner = i }) user_state_rules in
    record {
      told = record {
        statuses = c.run_lines.ensures.statuses;
        read_fault = c.run_lines.ensures.read_fault;
        write_fault = c.run_lines.ensures.write_fault;
        outcome = rw (← c.new.ensures.limits)
            (outcome_as (from_state state lines)
            (foreign_user_rules c.args.foreign c.new.result.check.limits)
            (each_by_itself state lines
            (λ l. ap (λ (i : UserLines). record lines { inner = i }) (stays inner (handed c.args.foreign UserPassword l))))
            c.run_lines.result c.args.max _ _ _ _ c.run_lines.ensures.outcome);
      };
    }
