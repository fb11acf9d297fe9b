use Rattle.hmac_plain.specs.Lengths.{length-hmac_sha512}
use Rattle.pbkdf2_key.proofs.laws.code_length.Goals as goal

pub returns : goal.returns
returns c = length-hmac_sha512
