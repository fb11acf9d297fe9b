-- The rules of what answers the lines of a password file.
use Rattle.line_program.specs.Rules.{StateRules}
use Rattle.shadow_check.specs.Lines.{line_is_good, line_may_lack, line_output}
use Rattle.shadow_check.specs.declared.lines.AnyLines.{AnyLines}

-- each line by itself, under the same bound
abbrev pub any_state_rules : StateRules AnyLines
any_state_rules = record {
  reply = λ s line. line_output s.check.limits line;
  after = λ s line. s;
  is_good = λ s line. line_is_good s.check.limits line;
  may_lack_memory = λ s line. line_may_lack s.check.limits line;
}
