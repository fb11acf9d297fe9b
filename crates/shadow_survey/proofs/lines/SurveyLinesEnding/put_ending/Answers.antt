use Rattle.line_io.proofs.Gathering.{puts_more}
use Rattle.shadow_survey.proofs.lines.SurveyLinesEnding.put_ending.Goals as goal

pub returns : goal.returns
returns g c = record {
  puts = puts_more _ _ _ _ _ _ _ _ _ _ _ c.put_front.ensures.puts c.put_counts.ensures.puts;
}
