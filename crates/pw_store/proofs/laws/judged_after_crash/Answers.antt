use Rattle.pw_store.proofs.CrashedRuns.{after_crash}
use Rattle.pw_store.proofs.laws.judged_after_crash.Goals as goal

pub returns : goal.returns
returns g c = after_crash g.P.Policy.policy
