use Rattle.phpass_plain.proofs.Answers.{one_field}
use Rattle.phpass_plain.proofs.laws.field_once.Goals as goal

pub returns : goal.returns
returns c = record { one = one_field }
