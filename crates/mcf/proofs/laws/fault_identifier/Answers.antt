use Rattle.mcf.proofs.Built.{fault_identifier}
use Rattle.mcf.proofs.laws.fault_identifier.Goals as goal

pub returns : goal.returns
returns c = record { fault = λ id name. (fault_identifier id name).0; parts = λ id name. (fault_identifier id name).1 }
