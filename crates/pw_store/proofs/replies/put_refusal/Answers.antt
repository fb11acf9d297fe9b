use Rattle.std.proofs.Common.{Ok, [], ap}
use Rattle.pw_store.proofs.replies.put_refusal.Goals as goal

pub returns-in-Some-clause-answer : goal.returns-in-Some-clause-answer
returns-in-Some-clause-answer g c = rw c.in-Some.is (ap Ok (c.is_good.ensures.good []))
