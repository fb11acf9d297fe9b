use Rattle.std.proofs.Common.{sym}
use Rattle.crypt_text.proofs.Rounds.{no_plain}
use Rattle.crypt_text.proofs.sha_texts.plain_number.Goals as goal

pub returns-in-None : goal.returns-in-None
returns-in-None c = no_plain c.args.digits.now (sym c.if-has_leading_zero.ensures) c.in-None.ensures.text
