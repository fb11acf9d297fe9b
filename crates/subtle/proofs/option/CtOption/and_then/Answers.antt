use Rattle.std.proofs.Common.{rules}
use Rattle.subtle.proofs.Calls.{continues}
use Rattle.subtle.proofs.option.CtOption.and_then.Goals as goal

pub returns-clause-answer : goal.returns-clause-answer
returns-clause-answer g c =
    continues c.args.self.present c.args.self.value _ _ (λ h. search rules)
    (λ h. (c.f-answer.result, search rules, search rules))

pub returns-clause-called : goal.returns-clause-called
returns-clause-called g c = λ none. (c.default.result, c.f-answer.result, search rules, search rules)
