use Rattle.any_check.proofs.RecordNames.{takes_records}
use Rattle.any_check.proofs.Taken.{same_verdict}
use Rattle.any_check.proofs.laws.of_check_stored.Goals as goal

pub returns : goal.returns
returns c = record { same = same_verdict; here = takes_records }
