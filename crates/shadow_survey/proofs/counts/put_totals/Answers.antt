use Rattle.line_io.proofs.Gathering.{puts_more}
use Rattle.shadow_survey.proofs.counts.put_totals.Goals as goal

pub returns : goal.returns
returns g c = record {
  puts = puts_more _ _ _ _ _ _ _ _ _ _ _ c.put_schemes.ensures.puts
      (puts_more _ _ _ _ _ _ _ _ _ _ _ c.put_forms.ensures.puts c.put_others.ensures.puts);
}
