use Rattle.std.proofs.Common.{◌≡◌, ℕ, ◌+◌, suc, arith, subst}
use Rattle.line_io.specs.Output.{Puts}
use Rattle.line_io.proofs.Gathering.{puts_more, puts_none}
use Rattle.pw_file.specs.History.{Says}
use Rattle.pw_file.specs.Replies.{reply_text}
use Rattle.pw_store.specs.Progress.{words}
use Rattle.pw_store.proofs.replies.put_words.Goals as goal

pub each-init : goal.each-init
each-init g c = record {
  most = omega arith;
  put = puts_none (g.K.Sink.written c.args.sink.now) (g.K.Sink.faults c.args.sink.now) c.args.out.now;
}

pub each-preserved : goal.each-preserved
each-preserved g c =
    let more = puts_more _ _ _ _ _ _ c.args.out.now c.each.out c.put_word.new.out (words c.each.done c.args.word) (reply_text (Says c.args.word)) c.each.invariant.put
    c.put_word.ensures.puts in
    let next : suc c.each.done ≡ c.each.done + 1 = omega arith in
    record {
      most = let less = c.each-test.true in omega (arith, less);
      put = subst (λ (n : ℕ). Puts (g.K.Sink.written c.args.sink.now) (g.K.Sink.written c.put_word.new.sink) (g.K.Sink.faults c.args.sink.now) (g.K.Sink.faults c.put_word.new.sink) c.args.out.now c.put_word.new.out (words n c.args.word)) next more;
    }
