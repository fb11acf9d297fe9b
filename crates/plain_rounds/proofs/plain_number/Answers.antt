use Rattle.std.proofs.Common.{◌≡◌, true, sym, ◌∙◌, rules}
use Rattle.pieces.specs.Numbers.{is_plain_number}
use Rattle.pieces.proofs.PlainNumbers.{plain_parsed}
use Rattle.plain_rounds.proofs.plain_number.Goals as goal

pub returns-in-Ok : goal.returns-in-Ok
returns-in-Ok c =
    let plain : is_plain_number c.args.text.now ≡ true = sym c.is_plain_number.ensures ∙ search rules in
    rw c.in-Ok.is at (plain_parsed 32 c.args.text.now c.parse.result plain c.parse.ensures.value.0)

pub returns-in-Err : goal.returns-in-Err
returns-in-Err c =
    let plain : is_plain_number c.args.text.now ≡ true = sym c.is_plain_number.ensures ∙ search rules in
    rw c.in-Err.is at (plain_parsed 32 c.args.text.now c.parse.result plain c.parse.ensures.value.0)
