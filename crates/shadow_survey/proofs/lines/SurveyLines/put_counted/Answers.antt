use Rattle.line_io.proofs.Gathering.{puts_more}
use Rattle.shadow_survey.proofs.lines.SurveyLines.put_counted.Goals as goal

pub returns-clause-row : goal.returns-clause-row
returns-clause-row g c = puts_more _ _ _ _ _ _ _ _ _ _ _ c.put_front.ensures.puts c.put_row.ensures.puts
