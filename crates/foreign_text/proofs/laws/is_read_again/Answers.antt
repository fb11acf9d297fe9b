use Rattle.foreign_text.proofs.Digested.{digest_read_again}
use Rattle.foreign_text.proofs.Records.{read_again}
use Rattle.foreign_text.proofs.laws.is_read_again.Goals as goal

pub returns : goal.returns
returns c = record { read = read_again; digest = digest_read_again }
