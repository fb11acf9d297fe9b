use Rattle.any_make.proofs.Joined.{pbkdf2_is}
use Rattle.any_make.proofs.records.pbkdf2_text.Goals as goal

pub returns : goal.returns
returns c =
    pbkdf2_is c.args.hash c.args.rounds c.args.password.now c.args.salt.now c.pbkdf2_key-key.result c.pbkdf2_front.result
    c.with_fields.result c.pbkdf2_key-key.ensures c.pbkdf2_front.ensures.text c.with_fields.ensures
