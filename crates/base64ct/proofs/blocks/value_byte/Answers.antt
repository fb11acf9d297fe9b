use Rattle.base64ct.proofs.Reading.{low_byte}
use Rattle.base64ct.proofs.blocks.value_byte.Goals as goal

pub returns : goal.returns
returns g c = low_byte g.A.Alphabet.alphabet c.args.c c.decode_6bits.result g.met.A.Alphabet.lawful
    c.decode_6bits.ensures
