use Rattle.std.proofs.Common.{rules, ◌≡◌, ◌∙◌, ap, false, length, sym, List, ℕ}
use Rattle.std.specs.Prelude.{nat_lt}
use Rattle.shadow_fields.specs.Fields.{first_field, text_of_line}
use Rattle.shadow_fields.specs.Passwords.{password_in}
use Rattle.shadow_check.proofs.OfJoins.{of_none, of_user}
use Rattle.shadow_check.proofs.joined.JoinedLinesResponder.answer.Goals as goal

pub returns-in-Some-clause-good : goal.returns-in-Some-clause-good
returns-in-Some-clause-good g c =
    let short : nat_lt 8192 (length c.args.line.now) ≡ false = search rules in
    let cut = c.in-Some.ensures.user in
    let text : c.cut_field.result.now ≡ text_of_line c.args.line.now =
    c.cut_field.ensures.field ∙ ap (λ (xs : List ℕ). first_field xs) cut.2 in
    let owed = of_user c.args.self.now.check.limits (password_in c.args.self.now.passwords) c.args.line.now short cut.0 in
    rw (cut.1, text, sym owed.1) at c.put_answer.ensures.good

pub returns-in-Some-clause-reply : goal.returns-in-Some-clause-reply
returns-in-Some-clause-reply g c =
    let short : nat_lt 8192 (length c.args.line.now) ≡ false = search rules in
    let cut = c.in-Some.ensures.user in
    let text : c.cut_field.result.now ≡ text_of_line c.args.line.now =
    c.cut_field.ensures.field ∙ ap (λ (xs : List ℕ). first_field xs) cut.2 in
    let owed = of_user c.args.self.now.check.limits (password_in c.args.self.now.passwords) c.args.line.now short cut.0 in
    rw (cut.1, text, sym owed.0) at c.put_answer.ensures.reply

pub returns-in-Some-clause-wants : goal.returns-in-Some-clause-wants
returns-in-Some-clause-wants g c =
    let short : nat_lt 8192 (length c.args.line.now) ≡ false = search rules in
    let cut = c.in-Some.ensures.user in
    let text : c.cut_field.result.now ≡ text_of_line c.args.line.now =
    c.cut_field.ensures.field ∙ ap (λ (xs : List ℕ). first_field xs) cut.2 in
    let owed = of_user c.args.self.now.check.limits (password_in c.args.self.now.passwords) c.args.line.now short cut.0 in
    rw (cut.1, text, sym owed.2) at c.put_answer.ensures.wants

pub returns-in-None-clause-good : goal.returns-in-None-clause-good
returns-in-None-clause-good g c =
    let short : nat_lt 8192 (length c.args.line.now) ≡ false = search rules in
    let owed = of_none c.args.self.now.check.limits (password_in c.args.self.now.passwords) c.args.line.now short
    c.in-None.ensures.user in
    sym owed.1

pub returns-in-None-clause-reply : goal.returns-in-None-clause-reply
returns-in-None-clause-reply g c =
    let short : nat_lt 8192 (length c.args.line.now) ≡ false = search rules in
    let owed = of_none c.args.self.now.check.limits (password_in c.args.self.now.passwords) c.args.line.now short
    c.in-None.ensures.user in
    rw (owed.0) c.put.ensures.puts
