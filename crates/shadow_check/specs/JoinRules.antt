-- The rules of what answers the lines of a shadow file by a table of passwords.
use Rattle.line_program.specs.Rules.{StateRules}
use Rattle.shadow_fields.specs.Passwords.{password_in}
use Rattle.shadow_check.specs.Join.{joined_is_good, joined_may_lack, joined_output}
use Rattle.shadow_check.specs.declared.joined.JoinedLines.{JoinedLines}

-- each line by itself, under the same bound and by the same table
abbrev pub joined_state_rules : StateRules JoinedLines
joined_state_rules = record {
  reply = λ s line. joined_output s.check.limits (password_in s.passwords) line;
  after = λ s line. s;
  is_good = λ s line. joined_is_good s.check.limits (password_in s.passwords) line;
  may_lack_memory = λ s line. joined_may_lack s.check.limits (password_in s.passwords) line;
}
