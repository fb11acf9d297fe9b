use Rattle.std.proofs.Common.{◌≡◌, [], ◌∷◌, ◌++◌, ap}
use Rattle.line_io.proofs.Gathering.{puts_then_none}
use Rattle.shadow_check.specs.Lines.{answer_word, line_output}
use Rattle.shadow_check.specs.declared.lines.LineAnswer.{LineAnswer}
use Rattle.shadow_check.proofs.lines.AnyLinesResponder.answer.Goals as goal

pub returns-then-has_verdict-clause-reply : goal.returns-then-has_verdict-clause-reply
returns-then-has_verdict-clause-reply g c =
    let text : answer_word c.in-Some.answer ++ 10 ∷ [] ≡ line_output c.args.self.now.check.limits c.args.line.now =
    ap (λ (a : LineAnswer). answer_word a ++ 10 ∷ []) c.in-Some.ensures.answered.1 in
    puts_then_none _ _ _ _ _ _ c.args.out.now c.put_word.new.out c.flush.new.self _
    (rw text at c.put_word.ensures.puts) c.flush.ensures.puts
