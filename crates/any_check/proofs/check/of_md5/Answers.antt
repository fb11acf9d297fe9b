use Rattle.std.proofs.Common.{rules}
use Rattle.any_check.proofs.check.of_md5.Goals as goal

pub returns-in-Ok : goal.returns-in-Ok
returns-in-Ok c = search rules
