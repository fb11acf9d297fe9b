use Rattle.scram_plain.proofs.Answers.{verdict_where_left}
use Rattle.scram_plain.proofs.laws.verdict_where_left.Goals as goal

pub returns : goal.returns
returns c = record { verdict = verdict_where_left }
