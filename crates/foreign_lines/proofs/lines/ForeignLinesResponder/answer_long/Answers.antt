use Rattle.std.proofs.Common.{rules, ◌≡◌, true, length, ap}
use Rattle.std.specs.Prelude.{nat_lt}
use Rattle.foreign_lines.proofs.Handing.{of_long}
use Rattle.foreign_lines.proofs.lines.ForeignLinesResponder.answer_long.Goals as goal

pub returns-clause-good : goal.returns-clause-good
returns-clause-good g c line long =
    let s = c.args.self.now in
    let is : nat_lt 8192 (length line) ≡ true = search rules in
    rw (of_long s.foreign s.form line is) (c.answer_long.ensures.good line long)

pub returns-clause-reply : goal.returns-clause-reply
returns-clause-reply g c line long =
    let s = c.args.self.now in
    let is : nat_lt 8192 (length line) ≡ true = search rules in
    rw (of_long s.foreign s.form line is) (c.answer_long.ensures.reply line long)

pub returns-clause-after : goal.returns-clause-after
returns-clause-after g c line long =
    let s = c.args.self.now in
    let is : nat_lt 8192 (length line) ≡ true = search rules in
    rw (of_long s.foreign s.form line is) (ap (λ i. record s { inner = i }) (c.answer_long.ensures.after line long))
