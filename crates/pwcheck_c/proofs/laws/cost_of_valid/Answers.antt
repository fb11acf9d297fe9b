use Rattle.std.proofs.Common.{◌≤◌, length, arith}
use Rattle.std.proofs.lemmas.Bool.Decides.{nat_tests}
use Rattle.pwcheck_c.proofs.Matches as valid
use Rattle.pwcheck_c.proofs.laws.cost_of_valid.Goals as goal

pub returns : goal.returns
returns c = λ password stored short.
    let fits : length password ≤ 4096 = grind (arith, nat_tests, short) in
    valid.cost_of_valid password stored fits
