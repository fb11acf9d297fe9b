use Rattle.pw_store.proofs.CrashedRuns.{after_run}
use Rattle.pw_store.proofs.laws.judged_after_run.Goals as goal

pub returns : goal.returns
returns g c = after_run g.P.Policy.policy
