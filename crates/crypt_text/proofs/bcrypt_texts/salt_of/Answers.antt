use Rattle.crypt_text.proofs.Cleared.{salt_is}
use Rattle.crypt_text.proofs.bcrypt_texts.salt_of.Goals as goal

pub returns : goal.returns
returns c = salt_is c.args.characters.now c.decode_salt.result c.told-characters c.decode_salt.ensures.found
