use Rattle.std.proofs.Common.{refl}
use Rattle.line_program.specs.Rules.{from_state}
use Rattle.line_program.proofs.RuleLaws.{each_by_itself}
use Rattle.line_program.proofs.Told.{outcome_as}
use Rattle.shadow_fields.specs.Wanted.{is_in}
use Rattle.shadow_check.specs.NoText.{no_text_rules}
use Rattle.shadow_check.specs.NoTextRules.{no_text_state_rules}
use Rattle.shadow_check.specs.declared.no_text.NoTextLines.{NoTextLines}
use Rattle.shadow_check.proofs.no_text.tell_users.Goals as goal

pub returns : goal.returns
returns g c =
    let told : NoTextLines = record { users = c.args.users } in
    record {
      told = record {
        statuses = c.run_lines.ensures.statuses;
        read_fault = c.run_lines.ensures.read_fault;
        write_fault = c.run_lines.ensures.write_fault;
        outcome = outcome_as (from_state no_text_state_rules told) (no_text_rules (is_in c.args.users))
            (each_by_itself no_text_state_rules told (λ l. refl)) c.run_lines.result c.args.max _ _ _ _ c.run_lines.ensures.outcome;
      };
    }
