use Rattle.std.proofs.Common.{refl}
use Rattle.ldif_lines.specs.Steps.{held}
use Rattle.ldif_lines.proofs.entry.Entry.begin_with.Goals as goal

pub returns : goal.returns
unfolding held
returns c = record { named = rw c.clear.ensures.none refl }
