use Rattle.scrypt_plain.specs.Lengths.{length-block_key}
use Rattle.scrypt_plain.proofs.laws.block_key_length.Goals as goal

pub returns : goal.returns
returns c = length-block_key
