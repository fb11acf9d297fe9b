use Rattle.std.proofs.Common.{◌≡◌, ◌∙◌, ap, Err}
use Rattle.line_program.proofs.PlainAnswers.{told_want}
use Rattle.stored_check.specs.declared.error.StoredError.TheVariants.{OutOfMemory}
use Rattle.scrypt_plain.specs.Profile as scrypt
use Rattle.md5_crypt.specs.Run.{is_costly, verdict_with_scrypt}
use Rattle.md5_crypt.specs.declared.error.LegacyError.TheVariants.{Stored}
use Rattle.md5_crypt.proofs.Causes.{never_lacks}
use Rattle.md5_crypt.proofs.run.LegacyCheckPasswordCheck.check.Goals as goal

pub returns-in-Err-Stored-OutOfMemory-clause-wants : goal.returns-in-Err-Stored-OutOfMemory-clause-wants
returns-in-Err-Stored-OutOfMemory-clause-wants c =
    let fault : c.in-Err-Stored-OutOfMemory.field-0 ≡ Stored OutOfMemory =
    c.in-Err-Stored-OutOfMemory.field-0-is ∙ ap Stored c.in-Err-Stored-OutOfMemory.field-0-0-is in
    told_want (Stored OutOfMemory) (verdict_with_scrypt c.args.password.now c.args.stored.now)
    c.check_with_scrypt.result (is_costly c.args.password.now c.args.stored.now)
    (never_lacks scrypt.accepted scrypt.key c.args.password.now c.args.stored.now)
    (c.in-Err-Stored-OutOfMemory.is ∙ ap Err fault) c.check_with_scrypt.ensures.verdict
