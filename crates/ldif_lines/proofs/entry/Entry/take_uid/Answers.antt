use Rattle.std.proofs.Common.{◌≡◌, false, refl, rules, true}
use Rattle.ldif_lines.specs.Steps.{held}
use Rattle.ldif_lines.proofs.entry.Entry.take_uid.Goals as goal

pub returns-then-not-self : goal.returns-then-not-self
unfolding held
returns-then-not-self c =
    let off : c.args.self.now.has_uid ≡ false = search rules in
    record { held = rw (off, c.line_name-self.ensures) refl }

pub returns-else-not-self : goal.returns-else-not-self
unfolding held
returns-else-not-self c =
    let on : c.args.self.now.has_uid ≡ true = search rules in
    record { held = rw on refl }
