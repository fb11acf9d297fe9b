use Rattle.std.proofs.Common.{ap}
use Rattle.line_program.specs.Rules.{from_state}
use Rattle.line_program.proofs.RuleLaws.{each_by_itself}
use Rattle.line_program.proofs.Told.{outcome_as}
use Rattle.shadow_fields.specs.Passwords.{password_in}
use Rattle.shadow_check.specs.JoinRules.{joined_state_rules}
use Rattle.shadow_check.specs.declared.joined.JoinedLines.{JoinedLines}
use Rattle.foreign_lines.specs.Handed.{handed}
use Rattle.foreign_lines.specs.Rules.{foreign_state}
use Rattle.foreign_lines.specs.Runs.{foreign_joined_rules}
use Rattle.foreign_lines.specs.declared.lines.ForeignLines.{ForeignLines}
use Rattle.foreign_lines.specs.declared.parts.LineForm.TheVariants.{UserText}
use Rattle.foreign_lines.proofs.Handing.{stays}
use Rattle.foreign_lines.proofs.join.ForeignJoinJoining.join_texts.Goals as goal

pub returns : goal.returns
returns g c =
    let inner : JoinedLines = record { check = c.new.result; passwords = c.args.passwords } in
    let lines : ForeignLines JoinedLines = record { foreign = c.args.self.now.foreign; form = UserText; inner = inner } in
    let state = foreign_state (λ (s : ForeignLines JoinedLines). s.foreign) (λ s. s.form) (λ s. s.inner)
    (λ s i. record s { inner = i }) joined_state_rules in
    record {
      told = record {
        statuses = c.run_lines.ensures.statuses;
        read_fault = c.run_lines.ensures.read_fault;
        write_fault = c.run_lines.ensures.write_fault;
        outcome = rw (← c.new.ensures.limits)
            (outcome_as (from_state state lines)
            (foreign_joined_rules c.args.self.now.foreign c.new.result.limits (password_in c.args.passwords))
            (each_by_itself state lines
            (λ l. ap (λ (i : JoinedLines). record lines { inner = i }) (stays inner (handed c.args.self.now.foreign UserText l))))
            c.run_lines.result c.args.max _ _ _ _ c.run_lines.ensures.outcome);
      };
    }
