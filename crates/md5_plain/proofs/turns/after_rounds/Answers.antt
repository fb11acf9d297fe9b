use Rattle.std.proofs.Common.{refl, arith}
use Rattle.sha_crypt.specs.Digest.{after_rounds}
use Rattle.md5_plain.proofs.turns.after_rounds.Goals as goal

pub turns-init : goal.turns-init
unfolding after_rounds
turns-init c = (refl, omega arith)
