use Rattle.std.proofs.Common.{refl}
use Rattle.bcrypt_plain.specs.Schedule.{mixed}
use Rattle.bcrypt_plain.proofs.Steps.{mixed_more}
use Rattle.bcrypt_plain.proofs.schedule.mix.Goals as goal

pub subkeys-init : goal.subkeys-init
unfolding mixed
subkeys-init c = refl

pub subkeys-preserved : goal.subkeys-preserved
subkeys-preserved c = mixed_more c.args.key.now c.args.x.now c.subkeys.x c.subkeys.i c.subkeys.invariant
