use Rattle.crypt_law.proofs.Law.{law}
use Rattle.crypt_law.proofs.laws.matches_exactly.Goals as goal

pub returns : goal.returns
returns c = record { law = law }
