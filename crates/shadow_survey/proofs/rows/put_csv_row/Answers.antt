use Rattle.std.proofs.Common.{◌≡◌}
use Rattle.line_io.proofs.Gathering.{puts_more}
use Rattle.shadow_survey.specs.Rows.{apostrophe}
use Rattle.shadow_survey.proofs.rows.put_csv_row.Goals as goal

pub returns : goal.returns
returns g c =
    let mark : c.apostrophe.result.now ≡ apostrophe c.args.user.now = c.apostrophe.ensures in
    let all = puts_more _ _ _ _ _ _ _ _ _ _ _ c.put.ensures.puts
    (puts_more _ _ _ _ _ _ _ _ _ _ _ c.put-2.ensures.puts
    (puts_more _ _ _ _ _ _ _ _ _ _ _ c.put_text.ensures.puts c.put_cells.ensures.puts)) in
    record { puts = rw mark at all }
