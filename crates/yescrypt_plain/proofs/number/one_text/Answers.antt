use Rattle.yescrypt_plain.proofs.Spelling.{one_is}
use Rattle.yescrypt_plain.proofs.number.one_text.Goals as goal

pub returns : goal.returns
returns c = one_is c.args.value c.character.result c.requires.most c.character.ensures
