use Rattle.std.proofs.Common.{rules}
use Rattle.pwcheck_run.proofs.words.Words.is_check.Goals as goal

pub returns : goal.returns
returns c = search rules
