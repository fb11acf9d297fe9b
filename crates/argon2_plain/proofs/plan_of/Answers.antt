use Rattle.argon2_plain.proofs.Plans.{plan_taken}
use Rattle.argon2_plain.proofs.plan_of.Goals as goal

pub returns-clause-taken : goal.returns-clause-taken
returns-clause-taken c = plan_taken c.args.params.passes c.args.params.memory c.args.params.lanes c.requires.bounds
