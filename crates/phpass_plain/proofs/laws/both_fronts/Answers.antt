use Rattle.phpass_plain.proofs.Answers.{same_by_front}
use Rattle.phpass_plain.proofs.laws.both_fronts.Goals as goal

pub returns : goal.returns
returns c = record { fronts = same_by_front }
