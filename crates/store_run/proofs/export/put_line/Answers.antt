use Rattle.std.proofs.Common.{rules, ◌≡◌, [], ◌∷◌, ◌++◌}
use Rattle.line_io.proofs.Gathering.{puts_more}
use Rattle.store_run.proofs.export.put_line.Goals as goal

pub returns : goal.returns
returns g c =
    let user : c.as_bytes.result.now ≡ c.args.user.now = search rules in
    let text : c.as_bytes-2.result.now ≡ c.args.text.now = search rules in
    let line = puts_more _ _ _ _ _ _ c.put.new.self c.put-2.new.self c.put_line.new.self (58 ∷ [])
    (c.args.text.now ++ 10 ∷ []) c.put-2.ensures.puts (rw text at c.put_line.ensures.puts) in
    record {
      puts = puts_more _ _ _ _ _ _ c.args.out.now c.put.new.self c.put_line.new.self c.args.user.now _
          (rw user at c.put.ensures.puts) line;
    }
