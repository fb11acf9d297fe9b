use Rattle.stored_check.proofs.Causes.{never_memory}
use Rattle.stored_check.proofs.laws.no_want_of_memory.Goals as goal

pub returns : goal.returns
returns c = record { verdict = λ accepted tag password stored. never_memory accepted tag password stored }
