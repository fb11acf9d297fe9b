use Rattle.std.proofs.Common.{◌≡◌}
use Rattle.line_io.proofs.Gathering.{puts_more}
use Rattle.shadow_survey.specs.Rows.{weak_end}
use Rattle.shadow_survey.proofs.rows.put_json_row.Goals as goal

pub returns : goal.returns
returns g c =
    let end : c.weak_end.result.now ≡ weak_end c.args.judgement.now = c.weak_end.ensures in
    let all = puts_more _ _ _ _ _ _ _ _ _ _ _ c.put.ensures.puts
    (puts_more _ _ _ _ _ _ _ _ _ _ _ c.put_text.ensures.puts c.put_cells.ensures.puts) in
    record { puts = rw end at all }
