use Rattle.std.proofs.Common.{◌≡◌, ◌∙◌, ap, Bool, Option, ◌++◌, ◌∷◌, []}
use Rattle.line_program.specs.PlainOutput.{answer_line, plain_word}
use Rattle.line_io.proofs.Gathering.{puts_then_none}
use Rattle.line_program.proofs.plain.PlainLinesResponder.answer.Goals as goal
use Rattle.line_program.proofs.plain.PlainLinesResponder.answer.Goals.{then-is_some, else-is_some}

pub returns-after-is_some-clause-reply : goal.returns-after-is_some-clause-reply
returns-after-is_some-clause-reply g c =
    let text : c.word_line.result.now ≡ answer_line (g.C.PasswordCheck.verdict c.args.self.now.check) c.args.line.now =
    c.word_line.ensures.text ∙ ap (λ (a : Option Bool). plain_word a ++ 10 ∷ []) c.in-Ok.ensures.answer in
    let put = rw text at c.put.ensures.puts in
    elim c.if-is_some.branch [
      | then-is_some w ↦ rw (w.out-is, w.sink-is)
          (puts_then_none _ _ _ _ _ _ c.args.out.now c.put.new.self w.flush.new.self _ put w.flush.ensures.puts)
      | else-is_some w ↦ rw (w.out-is, w.sink-is) put
    ]
