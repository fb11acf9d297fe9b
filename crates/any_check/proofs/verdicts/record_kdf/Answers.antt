use Rattle.std.proofs.Common.{rules}
use Rattle.any_check.proofs.verdicts.record_kdf.Goals as goal

pub returns-clause-first : goal.returns-clause-first
returns-clause-first c = search rules
