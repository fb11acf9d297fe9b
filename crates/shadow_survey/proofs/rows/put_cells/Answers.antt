use Rattle.line_io.proofs.Gathering.{puts_more}
use Rattle.shadow_survey.proofs.rows.put_cells.Goals as goal

pub returns : goal.returns
returns g c = record {
  puts = puts_more _ _ _ _ _ _ _ _ _ _ _ c.put.ensures.puts
      (puts_more _ _ _ _ _ _ _ _ _ _ _ c.put_scheme.ensures.puts
      (puts_more _ _ _ _ _ _ _ _ _ _ _ c.put-2.ensures.puts
      (puts_more _ _ _ _ _ _ _ _ _ _ _ c.put_costs.ensures.puts
      (puts_more _ _ _ _ _ _ _ _ _ _ _ c.put-3.ensures.puts
      (puts_more _ _ _ _ _ _ _ _ _ _ _ c.put_words.ensures.puts c.put-4.ensures.puts)))));
}
