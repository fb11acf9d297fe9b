use Rattle.sha_crypt.proofs.Numbers.{number_parsed}
use Rattle.crypt_text.proofs.fields.old_number.Goals as goal

pub returns-in-Ok : goal.returns-in-Ok
returns-in-Ok c = rw c.in-Ok.is at (number_parsed c.args.digits.now c.parse.result c.parse.ensures.value.0)

pub returns-in-Err : goal.returns-in-Err
returns-in-Err c = rw c.in-Err.is at (number_parsed c.args.digits.now c.parse.result c.parse.ensures.value.0)
