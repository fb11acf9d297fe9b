-- The rules of what tells the users without a text by a table of the users who have one.
use Rattle.std.specs.Prelude.{false}
use Rattle.line_program.specs.Rules.{StateRules}
use Rattle.shadow_fields.specs.Wanted.{is_in}
use Rattle.shadow_check.specs.NoText.{no_text_is_good, no_text_output}
use Rattle.shadow_check.specs.declared.no_text.NoTextLines.{NoTextLines}

-- each line by itself, by the same table
abbrev pub no_text_state_rules : StateRules NoTextLines
no_text_state_rules = record {
  reply = λ s line. no_text_output (is_in s.users) line;
  after = λ s line. s;
  is_good = λ s line. no_text_is_good (is_in s.users) line;
  may_lack_memory = λ s line. false;
}
