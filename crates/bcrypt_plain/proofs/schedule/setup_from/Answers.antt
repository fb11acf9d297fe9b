use Rattle.bcrypt_plain.specs.Schedule.{expand_key, key_of}
use Rattle.bcrypt_plain.proofs.Steps.{turns_first, turns_more}
use Rattle.bcrypt_plain.proofs.schedule.setup_from.Goals as goal

pub turns-init : goal.turns-init
turns-init c =
    turns_first c.args.salt.now (key_of c.args.password.now) c.password_words-by_key.result c.salt_words-by_salt.result
    c.args.x.now c.expand_salted.new.x c.password_words-by_key.ensures c.salt_words-by_salt.ensures
    c.expand_salted.ensures

pub turns-preserved : goal.turns-preserved
turns-preserved c =
    turns_more c.args.salt.now (key_of c.args.password.now)
    (expand_key c.args.x.now c.args.salt.now (key_of c.args.password.now))
    c.password_words-by_key.result c.salt_words-by_salt.result c.turns.x c.expand.new.x c.expand-in-turns.new.x c.turns.n
    c.password_words-by_key.ensures c.salt_words-by_salt.ensures c.turns.invariant c.expand.ensures c.expand-in-turns.ensures
