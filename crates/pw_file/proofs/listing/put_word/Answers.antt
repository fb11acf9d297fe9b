use Rattle.std.proofs.Common.{◌≡◌, ◌∷◌, [], ◌∙◌}
use Rattle.line_io.proofs.Gathering.{puts_more, puts_then_none}
use Rattle.pw_file.specs.Replies.{word_text}
use Rattle.pw_file.proofs.listing.put_word.Goals as goal

pub returns-then-matches : goal.returns-then-matches
returns-then-matches g c =
    let text : c.as_bytes.result.now ≡ word_text c.args.word = c.as_bytes.ensures.value ∙ c.as_str.ensures.text in
    let both = puts_more _ _ _ _ _ _ c.args.out.now c.put.new.self c.put-2.new.self c.as_bytes.result.now (10 ∷ [])
    c.put.ensures.puts c.put-2.ensures.puts in
    record {
      puts = puts_then_none _ _ _ _ _ _ c.args.out.now c.put-2.new.self c.flush.new.self _ (rw text at both)
          c.flush.ensures.puts;
    }

pub returns-else-matches : goal.returns-else-matches
returns-else-matches g c =
    let text : c.as_bytes.result.now ≡ word_text c.args.word = c.as_bytes.ensures.value ∙ c.as_str.ensures.text in
    let both = puts_more _ _ _ _ _ _ c.args.out.now c.put.new.self c.put-2.new.self c.as_bytes.result.now (10 ∷ [])
    c.put.ensures.puts c.put-2.ensures.puts in
    record { puts = rw text at both }
