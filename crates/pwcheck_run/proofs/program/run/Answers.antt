use Rattle.std.proofs.Common.{rules}
use Rattle.pwcheck_run.proofs.program.run.Goals as goal

pub returns-clause-statuses : goal.returns-clause-statuses
returns-clause-statuses c = search rules
