use Rattle.std.proofs.lemmas.Str.{is_utf8-from_IsUtf8}
use Rattle.line_program.proofs.LastTab.{not_text}
use Rattle.foreign_lines.proofs.parts.utf8_text.Goals as goal

pub returns-in-Some : goal.returns-in-Some
returns-in-Some c = record {
  text = (is_utf8-from_IsUtf8 c.args.bytes.now c.in-Some.ensures.text.1, c.in-Some.ensures.text.0);
}

pub returns-in-None : goal.returns-in-None
returns-in-None c = record { text = not_text c.args.bytes.now c.in-None.ensures.text }
