-- The rules of what answers the lines of a file of users.
use Rattle.line_program.specs.Rules.{StateRules}
use Rattle.shadow_check.specs.Users.{user_is_good, user_may_lack, user_output}
use Rattle.shadow_check.specs.declared.users.UserLines.{UserLines}

-- each line by itself, under the same bound
abbrev pub user_state_rules : StateRules UserLines
user_state_rules = record {
  reply = λ s line. user_output s.lines.check.limits line;
  after = λ s line. s;
  is_good = λ s line. user_is_good s.lines.check.limits line;
  may_lack_memory = λ s line. user_may_lack s.lines.check.limits line;
}
