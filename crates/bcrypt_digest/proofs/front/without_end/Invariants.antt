use Rattle.std.proofs.Common.{◌≡◌, length, reverse}
use Rattle.bcrypt_digest.specs.Front.{without_front}
use Rattle.bcrypt_digest.proofs.front.without_end.Given as goal

abbrev pub invariant-loop-password : goal.invariant-loop-password
invariant-loop-password l = without_front (reverse l.password) ≡ without_front (reverse l.fn.password)

abbrev pub decreases-loop-password : goal.decreases-loop-password
decreases-loop-password l = length l.password
