use Rattle.std.proofs.Common.{◌≡◌, ◌∙◌, [], ◌∷◌, ◌++◌, ap, List, ℕ}
use Rattle.line_io.proofs.Gathering.{puts_then_none}
use Rattle.shadow_check.specs.Lines.{answer_word, line_output}
use Rattle.shadow_check.specs.declared.lines.LineAnswer.{LineAnswer}
use Rattle.shadow_check.proofs.users.UserLines.answer_user.Goals as goal

pub returns-then-has_verdict-clause-reply : goal.returns-then-has_verdict-clause-reply
returns-then-has_verdict-clause-reply g c =
    let text : c.args.user.now ++ 9 ∷ (c.word.result.now ++ 10 ∷ [])
    ≡ c.args.user.now ++ 9 ∷ line_output c.args.self.now.lines.check.limits c.args.rest.now =
    ap (λ (w : List ℕ). c.args.user.now ++ 9 ∷ (w ++ 10 ∷ [])) c.word.ensures.word
    ∙ ap (λ (a : LineAnswer). c.args.user.now ++ 9 ∷ (answer_word a ++ 10 ∷ [])) c.in-Some.ensures.answered.1 in
    puts_then_none _ _ _ _ _ _ c.args.out.now c.put_user.new.out c.flush.new.self _
    (rw text at c.put_user.ensures.puts) c.flush.ensures.puts

pub returns-else-has_verdict-clause-reply : goal.returns-else-has_verdict-clause-reply
returns-else-has_verdict-clause-reply g c =
    let text : c.args.user.now ++ 9 ∷ (c.word.result.now ++ 10 ∷ [])
    ≡ c.args.user.now ++ 9 ∷ line_output c.args.self.now.lines.check.limits c.args.rest.now =
    ap (λ (w : List ℕ). c.args.user.now ++ 9 ∷ (w ++ 10 ∷ [])) c.word.ensures.word
    ∙ ap (λ (a : LineAnswer). c.args.user.now ++ 9 ∷ (answer_word a ++ 10 ∷ [])) c.in-Some.ensures.answered.1 in
    rw text at c.put_user.ensures.puts
