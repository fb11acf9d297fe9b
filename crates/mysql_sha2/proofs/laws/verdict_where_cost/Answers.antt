use Rattle.mysql_sha2.proofs.Answers.{verdict_where_thousands}
use Rattle.mysql_sha2.proofs.laws.verdict_where_cost.Goals as goal

pub returns : goal.returns
returns c = record { verdict = verdict_where_thousands }
