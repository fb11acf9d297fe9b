use Rattle.scrypt_plain.proofs.Lanes.{loaded}
use Rattle.scrypt_plain.proofs.salsa.load.Goals as goal

pub returns : goal.returns
returns c = loaded c.args.words.now c.requires
