use Rattle.any_check.proofs.Valid.{valid_is_verdict, valid_on_some}
use Rattle.any_check.proofs.laws.valid_is_verdict.Goals as goal

pub returns : goal.returns
returns c = record { each = valid_is_verdict; some = valid_on_some }
