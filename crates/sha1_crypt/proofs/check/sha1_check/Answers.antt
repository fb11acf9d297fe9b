use Rattle.std.proofs.Common.{◌≡◌, true, sym, subst, Bool, Result, Ok}
use Rattle.std.specs.Prelude.{◌↔◌}
use Rattle.sha1_crypt.specs.Check.{IsHashText}
use Rattle.sha1_crypt.specs.declared.error.Sha1Fault.{Sha1Fault}
use Rattle.sha1_crypt.proofs.Answers.{matches_own_texts}
use Rattle.sha1_crypt.proofs.check.sha1_check.Goals as goal

pub returns-clause-passed : goal.returns-clause-passed
returns-clause-passed c =
    subst
    (λ (r : Result Bool Sha1Fault). (r ≡ Ok true) ↔ IsHashText c.args.password.now c.args.stored.now)
    (sym c.sha1_check_counted.ensures.answer) (matches_own_texts c.args.password.now c.args.stored.now)
