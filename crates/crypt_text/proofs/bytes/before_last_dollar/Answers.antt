use Rattle.std.proofs.Common.{arith}
use Rattle.std.proofs.lemmas.Grind.{common_steps}
use Rattle.crypt_text.proofs.Dollars.{last_is, no_last}
use Rattle.crypt_text.proofs.bytes.before_last_dollar.Goals as goal

pub returns-in-Some-clause-before : goal.returns-in-Some-clause-before
returns-in-Some-clause-before c =
    let place = c.in-Some.ensures.place in
    rw (last_is c.args.text.now c.in-Some.at place.0 place.1 place.2) (grind (arith, common_steps))

pub returns-in-None-clause-before : goal.returns-in-None-clause-before
returns-in-None-clause-before c = rw (no_last c.args.text.now c.in-None.ensures.place) (grind (arith, common_steps))
