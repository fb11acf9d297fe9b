use Rattle.std.proofs.Common.{refl}
use Rattle.line_program.specs.Rules.{from_state}
use Rattle.line_program.proofs.RuleLaws.{each_by_itself}
use Rattle.line_program.proofs.Told.{outcome_as}
use Rattle.shadow_check.specs.Users.{user_line_rules}
use Rattle.shadow_check.specs.UserRules.{user_state_rules}
use Rattle.shadow_check.specs.declared.users.UserLines.{UserLines}
use Rattle.shadow_check.proofs.users.run_users.Goals as goal

pub returns : goal.returns
returns g c =
    let users : UserLines = record { lines = c.new.result } in
    record {
      told = record {
        statuses = c.run_lines.ensures.statuses;
        read_fault = c.run_lines.ensures.read_fault;
        write_fault = c.run_lines.ensures.write_fault;
        outcome = rw (← c.new.ensures.limits)
            (outcome_as (from_state user_state_rules users) (user_line_rules c.new.result.check.limits)
            (each_by_itself user_state_rules users (λ l. refl)) c.run_lines.result c.args.max _ _ _ _
            c.run_lines.ensures.outcome);
      };
    }
