use Rattle.std.proofs.Common.{◌∙◌, sym}
use Rattle.std.proofs.lemmas.Str.{is_utf8-from_IsUtf8}
use Rattle.line_program.proofs.LastTab.{not_text}
use Rattle.shadow_survey.proofs.Plainness.{plain_utf8}
use Rattle.shadow_survey.proofs.lines.is_name.Goals as goal

pub returns-then-all_plain : goal.returns-then-all_plain
returns-then-all_plain c = record {
  name = sym (plain_utf8 c.args.text.now (sym c.requires.plain ∙ c.if-all_plain.true));
}

pub returns-in-Some : goal.returns-in-Some
returns-in-Some c = record { name = sym (is_utf8-from_IsUtf8 _ c.in-Some.ensures.text.1) }

pub returns-in-None : goal.returns-in-None
returns-in-None c = record { name = sym (not_text _ c.in-None.ensures.text) }
