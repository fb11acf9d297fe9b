use Rattle.yescrypt_plain.proofs.Spelling.{two_is}
use Rattle.yescrypt_plain.proofs.number.two_text.Goals as goal

pub returns : goal.returns
returns c =
    two_is c.args.value c.character.result c.character-2.result c.requires.most c.character.ensures c.character-2.ensures
