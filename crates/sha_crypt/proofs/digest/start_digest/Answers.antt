use Rattle.std.proofs.Common.{rules}
use Rattle.sha_crypt.specs.Digest.{start_digest}
use Rattle.sha_crypt.proofs.digest.start_digest.Goals as goal

pub returns : goal.returns
unfolding start_digest
returns g c = search rules
