use Rattle.std.proofs.Common.{rules}
use Rattle.pwcheck_run.proofs.verdict_word.word.Goals as goal

pub returns-clause-word : goal.returns-clause-word
returns-clause-word c = search rules
