use Rattle.line_program.proofs.Told.{told_as}
use Rattle.line_program.specs.Outcome.{StateOutcome}
use Rattle.shadow_fields.specs.Wanted.{LoadedWanted, is_in}
use Rattle.shadow_fields.specs.WantedRules.{loading_wanted_rules}
use Rattle.shadow_fields.proofs.LoadedWanted.{loaded_wanted}
use Rattle.shadow_fields.proofs.wanted.load_wanted.Goals as goal

pub returns-clause-told : goal.returns-clause-told
returns-clause-told g c = record {
  statuses = c.run_state_lines.ensures.statuses;
  read_fault = c.run_state_lines.ensures.read_fault;
  write_fault = c.run_state_lines.ensures.write_fault;
  outcome =
      told_as _ _ _ _
      (λ held taken added. StateOutcome loading_wanted_rules c.args.loading.now c.run_state_lines.new.responder
      c.run_state_lines.result c.args.max held taken added)
      (λ held taken added. LoadedWanted (is_in c.args.loading.now.users) c.run_state_lines.new.responder.passwords
      c.run_state_lines.result c.args.max held taken added)
      (λ held taken added o. loaded_wanted c.args.loading.now c.run_state_lines.new.responder c.requires.empty
      c.run_state_lines.result c.args.max held taken added o) c.run_state_lines.ensures.outcome;
}
