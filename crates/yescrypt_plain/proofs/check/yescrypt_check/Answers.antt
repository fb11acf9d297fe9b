use Rattle.yescrypt_plain.proofs.Passed.{yescrypt_passed}
use Rattle.yescrypt_plain.proofs.check.yescrypt_check.Goals as goal

pub returns-clause-passed : goal.returns-clause-passed
returns-clause-passed c =
    yescrypt_passed c.args.password.now c.args.stored.now c.yescrypt_check_kept.result c.yescrypt_check_kept.ensures.answer
