use Rattle.std.proofs.Common.{◌≡◌, true, sym, subst, Bool, Result, Ok}
use Rattle.std.specs.Prelude.{◌↔◌}
use Rattle.scram_plain.specs.Check.{IsScramText}
use Rattle.scram_plain.specs.declared.error.ScramFault.{ScramFault}
use Rattle.scram_plain.proofs.Answers.{matches_scram_texts}
use Rattle.scram_plain.proofs.check.scram_check.Goals as goal

pub returns-clause-passed : goal.returns-clause-passed
returns-clause-passed c =
    subst
    (λ (r : Result Bool ScramFault). (r ≡ Ok true) ↔ IsScramText c.args.password.now c.args.stored.now)
    (sym c.scram_check_counted.ensures.answer) (matches_scram_texts c.args.password.now c.args.stored.now)
