use Rattle.line_io.proofs.Gathering.{puts_more}
use Rattle.shadow_survey.proofs.counts.put_others.Goals as goal

pub returns : goal.returns
returns g c = record {
  puts = puts_more _ _ _ _ _ _ _ _ _ _ _ c.put_total.ensures.puts
      (puts_more _ _ _ _ _ _ _ _ _ _ _ c.put_total-2.ensures.puts
      (puts_more _ _ _ _ _ _ _ _ _ _ _ c.put_total-3.ensures.puts
      (puts_more _ _ _ _ _ _ _ _ _ _ _ c.put_total-4.ensures.puts c.put_total-5.ensures.puts)));
}
