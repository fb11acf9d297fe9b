use Rattle.scram_plain.proofs.Answers.{verdict_on_ascii}
use Rattle.scram_plain.proofs.laws.verdict_where_cost.Goals as goal

pub returns : goal.returns
returns c = record { verdict = verdict_on_ascii }
