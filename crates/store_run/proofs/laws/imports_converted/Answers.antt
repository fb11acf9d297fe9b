use Rattle.store_run.proofs.Conversions.{converted_set}
use Rattle.store_run.proofs.laws.imports_converted.Goals as goal

pub returns : goal.returns
returns c = record { sets = converted_set }
