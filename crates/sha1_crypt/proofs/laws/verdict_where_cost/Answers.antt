use Rattle.sha1_crypt.proofs.Answers.{verdict_where_rounds}
use Rattle.sha1_crypt.proofs.laws.verdict_where_cost.Goals as goal

pub returns : goal.returns
returns c = record { verdict = verdict_where_rounds }
