use Rattle.yescrypt_plain.proofs.Spelling.{three_is}
use Rattle.yescrypt_plain.proofs.number.three_text.Goals as goal

pub returns : goal.returns
returns c =
    three_is c.args.value c.character.result c.character-2.result c.character-3.result c.requires.most
    c.character.ensures c.character-2.ensures c.character-3.ensures
