use Rattle.std.proofs.Common.{refl}
use Rattle.ldif_lines.specs.Steps.{held}
use Rattle.ldif_lines.proofs.entry.Entry.new.Goals as goal

pub returns : goal.returns
unfolding held
returns c = record { fresh = rw (c.from_slice.ensures.bytes, c.new.ensures.none) refl }
