use Rattle.application_texts.proofs.Themselves.{themselves}
use Rattle.application_texts.proofs.laws.makers_convert_to_themselves.Goals as goal

pub returns : goal.returns
returns c = record { themselves = themselves }
