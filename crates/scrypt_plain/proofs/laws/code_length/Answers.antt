use Rattle.hmac_plain.specs.Lengths.{length-hmac_sha256}
use Rattle.scrypt_plain.proofs.laws.code_length.Goals as goal

pub returns : goal.returns
returns c = length-hmac_sha256
