use Rattle.std.proofs.Common.{rules, ◌≡◌, false, length, sym}
use Rattle.std.specs.Prelude.{nat_lt}
use Rattle.shadow_check.proofs.OfUsers.{of_none, of_user}
use Rattle.shadow_check.proofs.users.UserLinesResponder.answer.Goals as goal

pub returns-in-Some-clause-good : goal.returns-in-Some-clause-good
returns-in-Some-clause-good g c =
    let short : nat_lt 8192 (length c.args.line.now) ≡ false = search rules in
    let cut = c.in-Some.ensures.user in
    let owed = of_user c.args.self.now.lines.check.limits c.args.line.now short cut.0 in
    rw (cut.2, sym owed.1) at c.answer_user.ensures.good

pub returns-in-Some-clause-reply : goal.returns-in-Some-clause-reply
returns-in-Some-clause-reply g c =
    let short : nat_lt 8192 (length c.args.line.now) ≡ false = search rules in
    let cut = c.in-Some.ensures.user in
    let owed = of_user c.args.self.now.lines.check.limits c.args.line.now short cut.0 in
    rw (cut.1, cut.2, sym owed.0) at c.answer_user.ensures.reply

pub returns-in-Some-clause-wants : goal.returns-in-Some-clause-wants
returns-in-Some-clause-wants g c =
    let short : nat_lt 8192 (length c.args.line.now) ≡ false = search rules in
    let cut = c.in-Some.ensures.user in
    let owed = of_user c.args.self.now.lines.check.limits c.args.line.now short cut.0 in
    rw (cut.2, sym owed.2) at c.answer_user.ensures.wants

pub returns-in-None-clause-good : goal.returns-in-None-clause-good
returns-in-None-clause-good g c =
    let short : nat_lt 8192 (length c.args.line.now) ≡ false = search rules in
    let owed = of_none c.args.self.now.lines.check.limits c.args.line.now short c.in-None.ensures.user in
    sym owed.1

pub returns-in-None-clause-reply : goal.returns-in-None-clause-reply
returns-in-None-clause-reply g c =
    let short : nat_lt 8192 (length c.args.line.now) ≡ false = search rules in
    let owed = of_none c.args.self.now.lines.check.limits c.args.line.now short c.in-None.ensures.user in
    rw (owed.0) c.put.ensures.puts
