use Rattle.std.proofs.Common.{refl}
use Rattle.std.proofs.lemmas.Str.{is_utf8-from_IsUtf8}
use Rattle.line_program.proofs.LastTab.{not_text}
use Rattle.shadow_check.proofs.joined.JoinedLines.text_answer.Goals as goal

pub returns-in-Some : goal.returns-in-Some
returns-in-Some c =
    let is = is_utf8-from_IsUtf8 c.args.text.now c.in-Some.ensures.text.1 in
    let same = c.in-Some.ensures.text.0 in
    record { answered = rw is (rw same at c.checked.ensures.answered) }

pub returns-in-None : goal.returns-in-None
returns-in-None c =
    let other = not_text c.args.text.now c.in-None.ensures.text in
    record { answered = rw other ((λ h. cc), refl) }
