use Rattle.scrypt_plain.proofs.KeyBytes.{scrypt_bytes}
use Rattle.scrypt_plain.proofs.laws.key_bytes.Goals as goal

pub returns : goal.returns
returns c = scrypt_bytes
