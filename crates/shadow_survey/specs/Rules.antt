-- The rules of a survey: each line by itself, what is written before the first, and the counts after the last.
use Rattle.std.specs.Prelude.{ℕ, false, true, List, ◌++◌}
use Rattle.line_program.specs.Rules.{StateRules}
use Rattle.shadow_survey.specs.Counting.{counted, kind_of}
use Rattle.shadow_survey.specs.Rows.{counts_text, front_text, is_good, line_row, surveyed_line}
use Rattle.shadow_survey.specs.declared.lines.SurveyLines.{SurveyLines}

abbrev pub survey_rules : StateRules SurveyLines
survey_rules = record {
  reply = λ s line. front_text s.has_begun s.format ++ line_row s.format s.least line;
  after = λ s line. record s { has_begun = true; counts = counted s.counts (kind_of (surveyed_line s.least line).1) };
  is_good = λ s line. is_good (surveyed_line s.least line).1;
  may_lack_memory = λ s line. false;
}

-- what is written after the lines: the names of the columns where there was no line, and the counts
abbrev pub survey_ending : SurveyLines → List ℕ
survey_ending s = front_text s.has_begun s.format ++ counts_text s.format s.counts
