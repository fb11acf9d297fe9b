use Rattle.std.proofs.Common.{◌∙◌, ap, Err}
use Rattle.line_program.proofs.PlainAnswers.{told_want}
use Rattle.stored_check.proofs.Causes.{never_memory}
use Rattle.stored_check.specs.declared.error.StoredError.TheVariants.{OutOfMemory}
use Rattle.pbkdf2_plain.specs.Run.{accepted, is_costly, tag, verdict_of_either}
use Rattle.pbkdf2_plain.proofs.run.EitherCheckPasswordCheck.check.Goals as goal

pub returns-in-Err-OutOfMemory-clause-wants : goal.returns-in-Err-OutOfMemory-clause-wants
returns-in-Err-OutOfMemory-clause-wants c =
    told_want OutOfMemory (verdict_of_either c.args.password.now c.args.stored.now) c.check_either.result
    (is_costly c.args.password.now c.args.stored.now)
    (never_memory accepted tag c.args.password.now c.args.stored.now)
    (c.in-Err-OutOfMemory.is ∙ ap Err c.in-Err-OutOfMemory.field-0-is) c.check_either.ensures.verdict
