use Rattle.std.proofs.Common.{rules, ◌≡◌, [], ◌∷◌, ◌++◌}
use Rattle.line_io.proofs.Gathering.{puts_more}
use Rattle.shadow_fields.proofs.cut.put_user.Goals as goal

pub returns : goal.returns
returns g c =
    let same : c.as_bytes.result.now ≡ c.args.word.now = search rules in
    let word = puts_more _ _ _ _ _ _ c.put.new.self c.put-2.new.self c.put_line.new.self (9 ∷ [])
    (c.args.word.now ++ 10 ∷ []) c.put-2.ensures.puts (rw same at c.put_line.ensures.puts) in
    record {
      puts = puts_more _ _ _ _ _ _ c.args.out.now c.put.new.self c.put_line.new.self c.args.user.now _
          c.put.ensures.puts word;
    }
