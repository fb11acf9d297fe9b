use Rattle.pwcheck_run.proofs.Verdicts.{bench_counted}
use Rattle.pwcheck_run.proofs.laws.bench_counts.Goals as goal

pub returns : goal.returns
returns c = record { counted = bench_counted }
