use Rattle.line_io.proofs.Gathering.{puts_more}
use Rattle.shadow_survey.proofs.rows.put_tabs_row.Goals as goal

pub returns : goal.returns
returns g c = record {
  puts = puts_more _ _ _ _ _ _ _ _ _ _ _ c.put_text.ensures.puts c.put_cells.ensures.puts;
}
