-- The rules of what takes the passwords of wanted users.
use Rattle.std.specs.Prelude.{[]}
use Rattle.line_program.specs.Rules.{StateRules}
use Rattle.shadow_fields.specs.Passwords.{is_given}
use Rattle.shadow_fields.specs.Wanted.{is_in, is_wanted_line, wanted_behind}
use Rattle.shadow_fields.specs.declared.wanted.LoadingWanted.{LoadingWanted}

-- nothing is written
abbrev pub loading_wanted_rules : StateRules LoadingWanted
loading_wanted_rules = record {
  reply = λ s line. [];
  after = λ s line. record { passwords = wanted_behind (is_in s.users) s.passwords line; users = s.users };
  is_good = λ s line. is_given line;
  may_lack_memory = λ s line. is_wanted_line (is_in s.users) line;
}
