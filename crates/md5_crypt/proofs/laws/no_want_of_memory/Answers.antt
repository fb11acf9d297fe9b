use Rattle.md5_crypt.proofs.Causes.{never_lacks}
use Rattle.md5_crypt.proofs.laws.no_want_of_memory.Goals as goal

pub returns : goal.returns
returns c = record { none = never_lacks }
