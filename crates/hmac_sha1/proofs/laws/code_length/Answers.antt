use Rattle.hmac_sha1.specs.Lengths.{length-hmac_sha1}
use Rattle.hmac_sha1.proofs.laws.code_length.Goals as goal

pub returns : goal.returns
returns c = length-hmac_sha1
