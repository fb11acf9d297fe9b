use Rattle.std.proofs.Common.{rules}
use Rattle.md5_plain.specs.Digest.{start_digest}
use Rattle.md5_plain.proofs.digest.start_digest.Goals as goal

pub returns : goal.returns
unfolding start_digest
returns c = search rules
