use Rattle.salted_digest.proofs.Answers.{verdict_where_hash}
use Rattle.salted_digest.proofs.laws.verdict_where_hash.Goals as goal

pub returns : goal.returns
returns c = record { verdict = verdict_where_hash }
