use Rattle.phpass_plain.proofs.Answers.{verdict_where_found}
use Rattle.phpass_plain.proofs.laws.verdict_where_cost.Goals as goal

pub returns : goal.returns
returns c = record { verdict = verdict_where_found }
