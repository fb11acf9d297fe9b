use Rattle.std.proofs.Common.{rules}
use Rattle.foreign_text.proofs.Records.{joined_is}
use Rattle.foreign_text.proofs.kdf.made_text.Goals as goal

pub returns : goal.returns
returns c = joined_is c.args.kdf c.args.salt c.args.key _ (search rules)
