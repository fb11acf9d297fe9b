use Rattle.std.proofs.Common.{rules, ◌≡◌, Err}
use Rattle.stored_check.specs.declared.error.StoredError.TheVariants.{OutOfMemory}
use Rattle.pwcheck_run.specs.declared.answer.Answer.TheVariants.{Checked}
use Rattle.pwcheck_run.proofs.Known.{lacks_memory}
use Rattle.pwcheck_run.proofs.line_answer.answer_line.Goals as goal

pub returns-then-eq : goal.returns-then-eq
returns-then-eq c =
    let wants : c.answer_to-answer.result ≡ Checked (Err OutOfMemory) = search rules in
    record { answered = lacks_memory c.args.line.now c.answer_to-answer.result c.answer_to-answer.ensures.answer wants }
