use Rattle.std.proofs.Common.{refl}
use Rattle.crypt_text.proofs.Cleared.{no_value, value_is}
use Rattle.crypt_text.proofs.bcrypt_texts.cleared.Goals as goal

pub returns-in-Some : goal.returns-in-Some
returns-in-Some c =
    let place = c.in-Some.ensures.place in
    rw (value_is c.args.c c.in-Some.value place.0 place.1 place.2) refl

pub returns-in-None : goal.returns-in-None
returns-in-None c = rw (no_value c.args.c c.in-None.ensures.place) refl
