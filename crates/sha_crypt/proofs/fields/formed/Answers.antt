use Rattle.std.proofs.Common.{rules}
use Rattle.sha_crypt.proofs.fields.formed.Goals as goal

pub returns-in-Plain : goal.returns-in-Plain
returns-in-Plain c = search rules
