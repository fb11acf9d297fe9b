use Rattle.std.proofs.Common.{sym}
use Rattle.std.proofs.lemmas.Str.{is_utf8-from_IsUtf8}
use Rattle.pieces.proofs.ByteTests.{not_text}
use Rattle.any_make.proofs.make.is_text.Goals as goal

pub returns-in-Some : goal.returns-in-Some
returns-in-Some c = sym (is_utf8-from_IsUtf8 c.args.password.now c.in-Some.ensures.text.1)

pub returns-in-None : goal.returns-in-None
returns-in-None c = sym (not_text c.args.password.now c.in-None.ensures.text)
