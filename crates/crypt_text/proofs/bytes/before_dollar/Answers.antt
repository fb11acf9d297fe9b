use Rattle.std.proofs.Common.{arith}
use Rattle.std.proofs.lemmas.Grind.{common_steps}
use Rattle.crypt_text.proofs.Dollars.{first_is, none_is}
use Rattle.crypt_text.proofs.bytes.before_dollar.Goals as goal

pub returns-in-Some : goal.returns-in-Some
returns-in-Some c =
    let place = c.in-Some.ensures.place in
    let first = first_is c.args.text.now c.in-Some.at place.0 place.1 place.2 in
    record { before = rw first (grind (arith, common_steps)) }

pub returns-in-None : goal.returns-in-None
returns-in-None c =
    let none = none_is c.args.text.now c.in-None.ensures.place in
    record { before = rw none (grind (arith, common_steps)) }
