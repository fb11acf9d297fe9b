use Rattle.std.proofs.Common.{rules}
use Rattle.sha_crypt.proofs.fields.plain_number.Goals as goal

pub returns : goal.returns
returns c = search rules
