use Rattle.std.proofs.Common.{length, rules}
use Rattle.pw_file.specs.History.{text_in}
use Rattle.pw_file.proofs.TableAnswers.{fresh_all, open_some}
use Rattle.pw_file.proofs.table.Table.renewed.Goals as goal

pub returns-in-Ok-true-clause-taken : goal.returns-in-Ok-true-clause-taken
returns-in-Ok-true-clause-taken g c =
    let p = g.P.Policy.policy in
    let some = open_some p (text_in c.args.self.now c.args.user.now) c.in-Ok.text.now c.in-Ok.ensures.text in
    fresh_all p g.met.P.Policy.lawful (text_in c.args.self.now c.args.user.now) (length c.args.self.now)
    c.args.password.now c.args.salt.now c.in-Ok.text.now c.fresh.result some (search rules) c.fresh.ensures.answer c.fresh.ensures.text
