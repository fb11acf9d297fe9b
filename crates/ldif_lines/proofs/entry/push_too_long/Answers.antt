use Rattle.std.proofs.Common.{refl}
use Rattle.ldif_lines.specs.Entries.{too_long}
use Rattle.ldif_lines.proofs.entry.push_too_long.Goals as goal

pub returns : goal.returns
unfolding too_long
returns c = record { pushed = rw (c.push.ensures.appended, c.push_all.ensures.appended, c.requires.none) refl }
