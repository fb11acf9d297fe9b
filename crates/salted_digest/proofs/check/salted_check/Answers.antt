use Rattle.std.proofs.Common.{◌≡◌, true, sym, subst, Bool, Result, Ok}
use Rattle.std.specs.Prelude.{◌↔◌}
use Rattle.salted_digest.specs.Check.{IsDigestText}
use Rattle.salted_digest.specs.declared.error.SaltedFault.{SaltedFault}
use Rattle.salted_digest.proofs.Answers.{matches_digest_texts}
use Rattle.salted_digest.proofs.check.salted_check.Goals as goal

pub returns-clause-passed : goal.returns-clause-passed
returns-clause-passed c =
    subst
    (λ (r : Result Bool SaltedFault). (r ≡ Ok true) ↔ IsDigestText c.args.password.now c.args.stored.now)
    (sym c.salted_check_counted.ensures.answer) (matches_digest_texts c.args.password.now c.args.stored.now)
