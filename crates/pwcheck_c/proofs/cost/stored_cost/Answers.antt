use Rattle.std.proofs.Common.{◌≡◌, None, Some, rules, ◌∙◌, sym}
use Rattle.mcf.specs.Grammar.{fault, parts}
use Rattle.stored_check.specs.Verdict.{named_family}
use Rattle.pwcheck_c.proofs.StoredCosts.{cost_of_family, cost_of_fault, cost_of_other}
use Rattle.pwcheck_c.proofs.cost.stored_cost.Goals as goal

pub returns-in-Err : goal.returns-in-Err
returns-in-Err c =
    let bad : fault c.args.stored.now ≡ Some c.in-Err.field-0 = search rules in
    record { cost = sym (cost_of_fault c.args.stored.now c.in-Err.field-0 bad) }

pub returns-in-Some : goal.returns-in-Some
returns-in-Some c =
    let valid : fault c.args.stored.now ≡ None = search rules in
    let named : named_family (parts c.args.stored.now).id ≡ Some c.in-Some.family = search rules in
    record { cost = c.family_cost.ensures.cost ∙ sym (cost_of_family c.args.stored.now c.in-Some.family valid named) }

pub returns-in-None : goal.returns-in-None
returns-in-None c =
    let valid : fault c.args.stored.now ≡ None = search rules in
    let none : named_family (parts c.args.stored.now).id ≡ None = search rules in
    record { cost = c.phc_cost.ensures.cost ∙ sym (cost_of_other c.args.stored.now valid none) }
