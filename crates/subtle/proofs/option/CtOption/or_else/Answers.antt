use Rattle.std.proofs.Common.{rules}
use Rattle.subtle.proofs.Calls.{falls_back}
use Rattle.subtle.proofs.option.CtOption.or_else.Goals as goal

pub returns-clause-answer : goal.returns-clause-answer
returns-clause-answer g c =
    falls_back c.args.self.present c.args.self.value (λ h. (c.f-other.result, c.f-other.ensures, search rules))
    (λ h. search rules)
