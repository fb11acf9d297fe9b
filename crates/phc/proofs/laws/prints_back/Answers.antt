use Rattle.phc.proofs.Printed.{prints_back}
use Rattle.phc.proofs.Readable.{read_is}
use Rattle.phc.proofs.laws.prints_back.Goals as goal

pub returns : goal.returns
returns c = record {
  text = prints_back;
  valid = λ s r h. (read_is s r h).valid;
  printable = λ s r h. (read_is s r h).printable;
}
