use Rattle.std.proofs.Common.{◌≡◌, ◌≤◌, ◌<◌, ◌∙◌, false, length, rules, sym, true}
use Rattle.ldif_lines.specs.Limits.{rows_most}
use Rattle.ldif_lines.specs.Rests.{rows_from}
use Rattle.ldif_lines.specs.Steps.{held}
use Rattle.ldif_lines.proofs.Given.{fits, fits_not}
use Rattle.ldif_lines.proofs.entry.Entry.rows_into.Goals as goal

pub returns-then-self : goal.returns-then-self
unfolding held
returns-then-self c =
    let long : c.args.self.now.is_long ≡ true = search rules in
    record { rows = rw long c.push_too_long.ensures.pushed }

pub returns-then-not-push_rows : goal.returns-then-not-push_rows
unfolding held
returns-then-not-push_rows c =
    let e = c.args.self.now in
    let long : e.is_long ≡ false = search rules in
    let full : rows_most < length (rows_from e.name true e.texts) = search rules in
    record {
      rows = rw long (c.push_too_long-then-not-push_rows.ensures.pushed ∙ sym (fits_not (rows_from e.name true e.texts) full));
    }

pub returns : goal.returns
unfolding held
returns c =
    let e = c.args.self.now in
    let long : e.is_long ≡ false = search rules in
    let same : c.push_rows.new.rows ≡ rows_from e.name true e.texts = search rules in
    let short : length c.push_rows.new.rows ≤ rows_most = search rules in
    record { rows = rw long (same ∙ sym (fits (rows_from e.name true e.texts) (rw same at short))) }
