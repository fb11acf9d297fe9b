use Rattle.yescrypt_plain.proofs.Passed.{scrypt_passed}
use Rattle.yescrypt_plain.proofs.check.scrypt_check.Goals as goal

pub returns-clause-passed : goal.returns-clause-passed
returns-clause-passed c =
    scrypt_passed c.args.password.now c.args.stored.now c.scrypt_check_kept.result c.scrypt_check_kept.ensures.answer
