use Rattle.std.proofs.Common.{rules, ◌≡◌, false, length, nat_lt}
use Rattle.std.proofs.lemmas.Str.{is_utf8-from_IsUtf8}
use Rattle.line_program.proofs.LastTab.{not_text}
use Rattle.shadow_check.proofs.KnownAnswers.{of_other, of_text}
use Rattle.shadow_check.proofs.lines.AnyLines.answer_to.Goals as goal

pub returns-in-Some : goal.returns-in-Some
returns-in-Some c =
    let short : nat_lt 8192 (length c.args.line.now) ≡ false = search rules in
    let text = is_utf8-from_IsUtf8 c.args.line.now c.in-Some.ensures.text.1 in
    let same = c.in-Some.ensures.text.0 in
    record {
      answer = of_text c.args.self.now.check.limits c.args.line.now c.answer_to_text.result short text
          (rw same at c.answer_to_text.ensures.answer);
    }

pub returns-in-None : goal.returns-in-None
returns-in-None c =
    let short : nat_lt 8192 (length c.args.line.now) ≡ false = search rules in
    record {
      answer = of_other c.args.self.now.check.limits c.args.line.now short (not_text c.args.line.now c.in-None.ensures.text);
    }
