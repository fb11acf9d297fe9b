use Rattle.std.proofs.Common.{refl}
use Rattle.ldif_lines.specs.Steps.{held}
use Rattle.ldif_lines.proofs.entry.Entry.take_password.Goals as goal

pub returns : goal.returns
unfolding held
returns c = record {
  held = rw (c.push_text-self.ensures.texts, c.as_slice.ensures.value, c.line_text-text.ensures) refl;
}
