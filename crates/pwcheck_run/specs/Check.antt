-- The rules of what answers the lines of a password file.
use Rattle.line_program.specs.Rules.{StateRules}
use Rattle.pwcheck_run.specs.Answer.{line_is_good, line_may_lack, line_output}
use Rattle.pwcheck_run.specs.declared.checker.Checker.{Checker}

-- each line is answered by itself, and the checker stays as it is
abbrev pub check_rules : StateRules Checker
check_rules = record {
  reply = λ checker line. line_output checker.form line;
  after = λ checker line. checker;
  is_good = λ checker line. line_is_good line;
  may_lack_memory = λ checker line. line_may_lack line;
}
