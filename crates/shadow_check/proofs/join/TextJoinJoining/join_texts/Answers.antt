use Rattle.std.proofs.Common.{refl}
use Rattle.line_program.specs.Rules.{from_state}
use Rattle.line_program.proofs.RuleLaws.{each_by_itself}
use Rattle.line_program.proofs.Told.{outcome_as}
use Rattle.shadow_fields.specs.Passwords.{password_in}
use Rattle.shadow_check.specs.Join.{joined_rules}
use Rattle.shadow_check.specs.JoinRules.{joined_state_rules}
use Rattle.shadow_check.specs.declared.joined.JoinedLines.{JoinedLines}
use Rattle.shadow_check.proofs.join.TextJoinJoining.join_texts.Goals as goal

pub returns : goal.returns
returns g c =
    let joined : JoinedLines = record { check = c.new.result; passwords = c.args.passwords } in
    record {
      told = record {
        statuses = c.run_lines.ensures.statuses;
        read_fault = c.run_lines.ensures.read_fault;
        write_fault = c.run_lines.ensures.write_fault;
        outcome = rw (← c.new.ensures.limits)
            (outcome_as (from_state joined_state_rules joined)
            (joined_rules c.new.result.limits (password_in c.args.passwords))
            (each_by_itself joined_state_rules joined (λ l. refl)) c.run_lines.result c.args.max _ _ _ _
            c.run_lines.ensures.outcome);
      };
    }
