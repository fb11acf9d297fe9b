use Rattle.std.proofs.Common.{rules, ◌≡◌, true, length, sym}
use Rattle.std.specs.Prelude.{nat_lt}
use Rattle.shadow_check.proofs.OfUsers.{long_good, long_output}
use Rattle.shadow_check.proofs.users.UserLinesResponder.answer_long.Goals as goal

pub returns-clause-good : goal.returns-clause-good
returns-clause-good g c line long =
    let is : nat_lt 8192 (length line) ≡ true = search rules in
    sym (long_good c.args.self.now.lines.check.limits line is)

pub returns-clause-reply : goal.returns-clause-reply
returns-clause-reply g c line long =
    let is : nat_lt 8192 (length line) ≡ true = search rules in
    rw (long_output c.args.self.now.lines.check.limits line is) c.put.ensures.puts
