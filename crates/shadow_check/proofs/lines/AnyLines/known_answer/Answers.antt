use Rattle.std.proofs.Common.{rules, ◌≡◌, Err}
use Rattle.stored_check.specs.declared.error.StoredError.TheVariants.{OutOfMemory}
use Rattle.any_check.specs.declared.error.AnyError.TheVariants.{Stored}
use Rattle.shadow_check.specs.declared.lines.LineAnswer.TheVariants.{Checked}
use Rattle.shadow_check.proofs.KnownAnswers.{lacks_memory}
use Rattle.shadow_check.proofs.lines.AnyLines.known_answer.Goals as goal

pub returns-then-eq : goal.returns-then-eq
returns-then-eq c =
    let wants : c.answer_to-answer.result ≡ Checked (Err (Stored OutOfMemory)) = search rules in
    record {
      answered = lacks_memory c.args.self.now.check.limits c.args.line.now c.answer_to-answer.result
          c.answer_to-answer.ensures.answer wants;
    }
