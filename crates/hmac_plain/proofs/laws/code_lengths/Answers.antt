use Rattle.hmac_plain.specs.Lengths.{length-hmac_sha256, length-hmac_sha384, length-hmac_sha512}
use Rattle.hmac_plain.proofs.laws.code_lengths.Goals as goal

pub returns : goal.returns
returns c = (length-hmac_sha256, length-hmac_sha384, length-hmac_sha512)
