use Rattle.std.proofs.Common.{◌≡◌, false, sym, subst, Result, Ok}
use Rattle.std.specs.Prelude.{◌↔◌}
use Rattle.bcrypt_plain.specs.Check.{has_zero}
use Rattle.bcrypt_plain.specs.Made.{IsHashText}
use Rattle.bcrypt_plain.specs.declared.error.BcryptError.{BcryptError}
use Rattle.bcrypt_plain.proofs.ReadTexts.{matches_exactly}
use Rattle.bcrypt_plain.proofs.check.bcrypt_check.Goals as goal

pub returns-clause-passed : goal.returns-clause-passed
returns-clause-passed c =
    subst
    (λ (r : Result (Unit {0}) BcryptError).
    (r ≡ Ok tt) ↔ ((has_zero c.args.password.now ≡ false) × IsHashText c.args.password.now c.args.stored.now))
    (sym c.bcrypt_check_counted.ensures.answer) (matches_exactly c.args.password.now c.args.stored.now)
