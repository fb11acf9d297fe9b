use Rattle.std.proofs.Common.{rules, ◌≡◌, true, [], ◌∷◌}
use Rattle.line_io.proofs.Gathering.{puts_more}
use Rattle.line_program_tests.specs.Toys.{fits}
use Rattle.line_program_tests.proofs.tests.echo.EchoResponder.answer.Goals as goal

pub returns-clause-reply : goal.returns-clause-reply
returns-clause-reply g c =
    let short : fits c.args.line.now ≡ true = search rules in
    rw short (puts_more _ _ _ _ _ _ c.args.out.now c.put.new.self c.put-2.new.self c.args.line.now (10 ∷ [])
    c.put.ensures.puts c.put-2.ensures.puts)
