use Rattle.std.proofs.Common.{◌∙◌, sym, ap, List, Some, ℕ}
use Rattle.std.specs.Prelude.{slice_get}
use Rattle.std.specs.Option.{option_map}
use Rattle.pw_file.specs.History.{Rows}
use Rattle.pw_file.proofs.Entries.{as_row, rows_get}
use Rattle.pw_file.proofs.table.Table.user.Goals as goal

pub returns-in-Some : goal.returns-in-Some
returns-in-Some g c =
    record {
      user = ap (λ (u : List ℕ). Some u) c.copied.ensures.same
          ∙ ap (option_map (λ (row : List ℕ × List ℕ). row.0))
          (ap (option_map as_row) c.in-Some.ensures.entry ∙ sym (rows_get c.self.inside.texts.entries c.args.i)
          ∙ ap (λ (rows : Rows). slice_get rows c.args.i) c.self.view_is);
    }

pub returns-in-None : goal.returns-in-None
returns-in-None g c =
    record {
      user = ap (option_map (λ (row : List ℕ × List ℕ). row.0))
          (ap (option_map as_row) c.in-None.ensures.entry ∙ sym (rows_get c.self.inside.texts.entries c.args.i)
          ∙ ap (λ (rows : Rows). slice_get rows c.args.i) c.self.view_is);
    }
