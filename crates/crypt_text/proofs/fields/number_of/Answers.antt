use Rattle.crypt_text.proofs.Rounds.{no_old}
use Rattle.crypt_text.proofs.fields.number_of.Goals as goal

pub returns-in-None : goal.returns-in-None
returns-in-None c = no_old c.args.digits.now c.in-None.ensures.text
