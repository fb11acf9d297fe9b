use Rattle.std.proofs.Common.{refl, arith}
use Rattle.sha_crypt.specs.Digest.{after_rounds}
use Rattle.sha_crypt.proofs.turns.after_rounds.Goals as goal

pub turns-init : goal.turns-init
unfolding after_rounds
turns-init g c = (refl, omega arith)
