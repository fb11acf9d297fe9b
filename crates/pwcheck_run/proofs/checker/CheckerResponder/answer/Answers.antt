use Rattle.line_io.proofs.Gathering.{puts_then_none}
use Rattle.pwcheck_run.proofs.checker.CheckerResponder.answer.Goals as goal

pub returns-then-has_verdict-clause-reply : goal.returns-then-has_verdict-clause-reply
returns-then-has_verdict-clause-reply g c =
    let text = c.in-Some.ensures.answered.1 c.args.self.now.form in
    puts_then_none _ _ _ _ _ _ c.args.out.now c.put_answer.new.out c.flush.new.self _
    (rw text at c.put_answer.ensures.puts) c.flush.ensures.puts
