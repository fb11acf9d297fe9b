use Rattle.std.proofs.Common.{◌≡◌, ◌∙◌, [], ◌∷◌, ◌++◌, ap, List, ℕ}
use Rattle.line_io.proofs.Gathering.{puts_then_none}
use Rattle.shadow_fields.specs.Passwords.{password_in}
use Rattle.shadow_check.specs.Join.{join_answer, join_word}
use Rattle.shadow_check.specs.declared.answer.JoinAnswer.{JoinAnswer}
use Rattle.shadow_check.proofs.joined.JoinedLines.put_answer.Goals as goal

pub returns-then-has_verdict-clause-reply : goal.returns-then-has_verdict-clause-reply
returns-then-has_verdict-clause-reply g c =
    let text : c.args.user.now ++ 9 ∷ (c.word.result.now ++ 10 ∷ []) ≡ c.args.user.now ++ 9 ∷ (join_word
    (join_answer c.args.self.now.check.limits (password_in c.args.self.now.passwords c.args.user.now) c.args.text.now)
    ++ 10 ∷ []) =
    ap (λ (w : List ℕ). c.args.user.now ++ 9 ∷ (w ++ 10 ∷ [])) c.word.ensures.word
    ∙ ap (λ (a : JoinAnswer). c.args.user.now ++ 9 ∷ (join_word a ++ 10 ∷ [])) c.in-Some.ensures.answered.1 in
    puts_then_none _ _ _ _ _ _ c.args.out.now c.put_user.new.out c.flush.new.self _
    (rw text at c.put_user.ensures.puts) c.flush.ensures.puts

pub returns-else-has_verdict-clause-reply : goal.returns-else-has_verdict-clause-reply
returns-else-has_verdict-clause-reply g c =
    let text : c.args.user.now ++ 9 ∷ (c.word.result.now ++ 10 ∷ []) ≡ c.args.user.now ++ 9 ∷ (join_word
    (join_answer c.args.self.now.check.limits (password_in c.args.self.now.passwords c.args.user.now) c.args.text.now)
    ++ 10 ∷ []) =
    ap (λ (w : List ℕ). c.args.user.now ++ 9 ∷ (w ++ 10 ∷ [])) c.word.ensures.word
    ∙ ap (λ (a : JoinAnswer). c.args.user.now ++ 9 ∷ (join_word a ++ 10 ∷ [])) c.in-Some.ensures.answered.1 in
    rw text at c.put_user.ensures.puts
