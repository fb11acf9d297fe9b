use Rattle.sha1_crypt.proofs.Fields.{field_once}
use Rattle.sha1_crypt.proofs.laws.field_once.Goals as goal

pub returns : goal.returns
returns c = record { one = field_once }
