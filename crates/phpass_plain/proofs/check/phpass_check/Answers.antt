use Rattle.std.proofs.Common.{◌≡◌, true, sym, subst, Bool, Result, Ok}
use Rattle.std.specs.Prelude.{◌↔◌}
use Rattle.phpass_plain.specs.Check.{IsHashText}
use Rattle.phpass_plain.specs.declared.error.PhpassFault.{PhpassFault}
use Rattle.phpass_plain.proofs.Answers.{exactly_own_texts}
use Rattle.phpass_plain.proofs.check.phpass_check.Goals as goal

pub returns-clause-passed : goal.returns-clause-passed
returns-clause-passed c =
    subst
    (λ (r : Result Bool PhpassFault). (r ≡ Ok true) ↔ IsHashText c.args.password.now c.args.stored.now)
    (sym c.phpass_check_counted.ensures.answer) (exactly_own_texts c.args.password.now c.args.stored.now)
