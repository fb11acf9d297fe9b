use Rattle.line_program.proofs.Told.{told_as}
use Rattle.line_program.specs.Outcome.{StateOutcome}
use Rattle.shadow_fields.specs.LoadRules.{loading_rules}
use Rattle.shadow_fields.specs.Loads.{Loaded}
use Rattle.shadow_fields.proofs.Loaded.{loaded}
use Rattle.shadow_fields.proofs.load.load_passwords.Goals as goal

pub returns-clause-told : goal.returns-clause-told
returns-clause-told g c = record {
  statuses = c.run_state_lines.ensures.statuses;
  read_fault = c.run_state_lines.ensures.read_fault;
  write_fault = c.run_state_lines.ensures.write_fault;
  outcome =
      told_as _ _ _ _
      (λ held taken added. StateOutcome loading_rules c.args.loading.now c.run_state_lines.new.responder
      c.run_state_lines.result c.args.max held taken added)
      (λ held taken added. Loaded c.run_state_lines.new.responder.passwords c.run_state_lines.result c.args.max held taken
      added)
      (λ held taken added o. loaded c.args.loading.now c.run_state_lines.new.responder c.requires.empty
      c.run_state_lines.result c.args.max held taken added o) c.run_state_lines.ensures.outcome;
}
