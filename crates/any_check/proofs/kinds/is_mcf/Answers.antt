use Rattle.std.proofs.Common.{rules, ◌≡◌, None, Some, sym}
use Rattle.mcf.specs.Grammar.{fault}
use Rattle.any_check.proofs.Bound.{mcf_of_fault, mcf_of_valid}
use Rattle.any_check.proofs.kinds.is_mcf.Goals as goal

pub returns-in-Ok : goal.returns-in-Ok
returns-in-Ok c =
    let valid : fault c.args.stored.now ≡ None = search rules in
    sym (mcf_of_valid c.args.stored.now valid)

pub returns-in-Err : goal.returns-in-Err
returns-in-Err c =
    let bad : fault c.args.stored.now ≡ Some c.in-Err.field-0 = search rules in
    sym (mcf_of_fault c.args.stored.now c.in-Err.field-0 bad)
