use Rattle.line_io.proofs.Gathering.{puts_then_none}
use Rattle.pw_file.specs.History.{Says}
use Rattle.pw_file.specs.Replies.{reply_text}
use Rattle.pw_store.specs.Progress.{verdict_word}
use Rattle.pw_store.proofs.replies.put_verdict.Goals as goal

pub returns : goal.returns
returns g c = record {
  puts = puts_then_none _ _ _ _ _ _ c.args.out.now c.put_word.new.out c.flush.new.self (reply_text (Says (verdict_word c.args.matches)))
      (rw c.verdict_word.ensures.word at c.put_word.ensures.puts) c.flush.ensures.puts;
}
