use Rattle.yescrypt_plain.proofs.Spelling.{four_is}
use Rattle.yescrypt_plain.proofs.number.four_text.Goals as goal

pub returns : goal.returns
returns c =
    four_is c.args.value c.character.result c.character-2.result c.character-3.result c.character-4.result
    c.requires.most c.character.ensures c.character-2.ensures c.character-3.ensures c.character-4.ensures
