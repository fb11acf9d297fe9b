use Rattle.std.proofs.Common.{rules}
use Rattle.sha_crypt.proofs.b64.has_field_length.Goals as goal

pub returns : goal.returns
returns c = search rules
