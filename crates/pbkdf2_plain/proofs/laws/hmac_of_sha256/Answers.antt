use Rattle.std.proofs.Common.{refl}
use Rattle.pbkdf2_plain.proofs.laws.hmac_of_sha256.Goals as goal

pub returns : goal.returns
returns c = λ key text. refl
