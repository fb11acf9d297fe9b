use Rattle.line_program.specs.Outcome.{Outcome, StateOutcome}
use Rattle.line_program.specs.Rules.{from_state}
use Rattle.line_program.proofs.Told.{told_as}
use Rattle.line_program.proofs.run.run_lines.Goals as goal

pub returns-clause-outcome : goal.returns-clause-outcome
returns-clause-outcome g c =
    told_as _ _ _ _
    (λ held taken added. StateOutcome g.R.Responder.rules c.args.responder.now c.run_state_lines.new.responder
    c.run_state_lines.result c.args.max held taken added)
    (λ held taken added. Outcome (from_state g.R.Responder.rules c.args.responder.now) c.run_state_lines.result c.args.max
    held taken added)
    (λ held taken added o. o.0) c.run_state_lines.ensures.outcome
