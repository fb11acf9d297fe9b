use Rattle.mcf.proofs.Built.{fault_pushed}
use Rattle.mcf.proofs.laws.fault_pushed.Goals as goal

pub returns : goal.returns
returns c = record {
  fault = λ s field h good. (fault_pushed s field h good).0;
  parts = λ s field h good. (fault_pushed s field h good).1;
}
