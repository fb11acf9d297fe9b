-- The rules of what takes the passwords of lines.
use Rattle.std.specs.Prelude.{[], if◌then◌else◌, List, ℕ}
use Rattle.line_program.specs.Rules.{StateRules}
use Rattle.shadow_fields.specs.Fields.{rest_of, user_of}
use Rattle.shadow_fields.specs.Passwords.{UserPasswords, is_given, with_password}
use Rattle.shadow_fields.specs.declared.load.Loading.{Loading}

-- the table behind a line
abbrev pub rows_behind : UserPasswords → List ℕ → UserPasswords
rows_behind rows line = if is_given line then with_password rows (user_of line) (rest_of line) else rows

-- nothing is written
abbrev pub loading_rules : StateRules Loading
loading_rules = record {
  reply = λ s line. [];
  after = λ s line. record { passwords = rows_behind s.passwords line };
  is_good = λ s line. is_given line;
  may_lack_memory = λ s line. is_given line;
}
