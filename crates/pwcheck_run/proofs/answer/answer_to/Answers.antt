use Rattle.std.proofs.Common.{arith, ◌≡◌, false, length, nat_lt}
use Rattle.std.proofs.lemmas.Bool.Decides.{nat_tests}
use Rattle.std.proofs.lemmas.Str.{is_utf8-from_IsUtf8}
use Rattle.line_program.proofs.LastTab.{not_text}
use Rattle.pwcheck_run.proofs.Known.{of_other, of_text}
use Rattle.pwcheck_run.proofs.answer.answer_to.Goals as goal

pub returns-in-Some-clause-answer : goal.returns-in-Some-clause-answer
returns-in-Some-clause-answer c =
    let short : nat_lt 8192 (length c.args.line.now) ≡ false = grind (arith, nat_tests, c.requires.short) in
    let text = is_utf8-from_IsUtf8 c.args.line.now c.in-Some.ensures.text.1 in
    let same = c.in-Some.ensures.text.0 in
    of_text c.args.line.now c.answer_to_text.result short text (rw same at c.answer_to_text.ensures.answer)

pub returns-in-None-clause-answer : goal.returns-in-None-clause-answer
returns-in-None-clause-answer c =
    let short : nat_lt 8192 (length c.args.line.now) ≡ false = grind (arith, nat_tests, c.requires.short) in
    of_other c.args.line.now short (not_text c.args.line.now c.in-None.ensures.text)
