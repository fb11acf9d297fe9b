use Rattle.std.proofs.Common.{◌≡◌, length}
use Rattle.bcrypt_digest.specs.Front.{without_front}
use Rattle.bcrypt_digest.proofs.front.without_front.Given as goal

abbrev pub invariant-loop-password : goal.invariant-loop-password
invariant-loop-password l = without_front l.password ≡ without_front l.fn.password

abbrev pub decreases-loop-password : goal.decreases-loop-password
decreases-loop-password l = length l.password
