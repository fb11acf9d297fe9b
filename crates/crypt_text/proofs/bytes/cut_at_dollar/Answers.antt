use Rattle.std.proofs.Common.{arith}
use Rattle.std.proofs.lemmas.Grind.{common_steps}
use Rattle.crypt_text.proofs.Dollars.{first_is, has_at, has_none}
use Rattle.crypt_text.proofs.bytes.cut_at_dollar.Goals as goal

pub returns-in-Some : goal.returns-in-Some
returns-in-Some c =
    let place = c.in-Some.ensures.place in
    let first = first_is c.args.text.now c.in-Some.at place.0 place.1 place.2 in
    let has = has_at c.args.text.now c.in-Some.at place.0 place.2 in
    record { cut = (has, rw first (grind (arith, common_steps)), rw first (grind (arith, common_steps)), grind (arith, common_steps)) }

pub returns-in-None : goal.returns-in-None
returns-in-None c = record { cut = has_none c.args.text.now c.in-None.ensures.place }
