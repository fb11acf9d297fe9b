use Rattle.std.proofs.Common.{rules, ◌≡◌, ◌∙◌, sym, ap, false, length}
use Rattle.std.specs.Prelude.{nat_lt}
use Rattle.foreign_lines.specs.Views.{as_parts, parts_of}
use Rattle.foreign_lines.proofs.Handing.{of_none, of_parts}
use Rattle.foreign_lines.proofs.lines.answer_foreign.Goals as goal

pub returns-in-Some-clause-good : goal.returns-in-Some-clause-good
returns-in-Some-clause-good g c =
    let short : nat_lt 8192 (length c.args.line.now) ≡ false = search rules in
    let is = sym c.parts_in.ensures ∙ ap as_parts c.in-Some.is in
    rw (of_parts c.args.foreign c.args.form c.args.line.now short (parts_of c.in-Some.parts) is)
    c.answer_parts.ensures.good

pub returns-in-Some-clause-reply : goal.returns-in-Some-clause-reply
returns-in-Some-clause-reply g c =
    let short : nat_lt 8192 (length c.args.line.now) ≡ false = search rules in
    let is = sym c.parts_in.ensures ∙ ap as_parts c.in-Some.is in
    rw (of_parts c.args.foreign c.args.form c.args.line.now short (parts_of c.in-Some.parts) is)
    c.answer_parts.ensures.reply

pub returns-in-Some-clause-after : goal.returns-in-Some-clause-after
returns-in-Some-clause-after g c =
    let short : nat_lt 8192 (length c.args.line.now) ≡ false = search rules in
    let is = sym c.parts_in.ensures ∙ ap as_parts c.in-Some.is in
    rw (of_parts c.args.foreign c.args.form c.args.line.now short (parts_of c.in-Some.parts) is)
    c.answer_parts.ensures.after

pub returns-in-Some-clause-wants : goal.returns-in-Some-clause-wants
returns-in-Some-clause-wants g c =
    let short : nat_lt 8192 (length c.args.line.now) ≡ false = search rules in
    let is = sym c.parts_in.ensures ∙ ap as_parts c.in-Some.is in
    rw (of_parts c.args.foreign c.args.form c.args.line.now short (parts_of c.in-Some.parts) is)
    c.answer_parts.ensures.wants

pub returns-in-None-clause-good : goal.returns-in-None-clause-good
returns-in-None-clause-good g c =
    let short : nat_lt 8192 (length c.args.line.now) ≡ false = search rules in
    let is = sym c.parts_in.ensures ∙ ap as_parts c.in-None.is in
    rw (of_none c.args.foreign c.args.form c.args.line.now short is) c.answer.ensures.good

pub returns-in-None-clause-reply : goal.returns-in-None-clause-reply
returns-in-None-clause-reply g c =
    let short : nat_lt 8192 (length c.args.line.now) ≡ false = search rules in
    let is = sym c.parts_in.ensures ∙ ap as_parts c.in-None.is in
    rw (of_none c.args.foreign c.args.form c.args.line.now short is) c.answer.ensures.reply

pub returns-in-None-clause-after : goal.returns-in-None-clause-after
returns-in-None-clause-after g c =
    let short : nat_lt 8192 (length c.args.line.now) ≡ false = search rules in
    let is = sym c.parts_in.ensures ∙ ap as_parts c.in-None.is in
    rw (of_none c.args.foreign c.args.form c.args.line.now short is) c.answer.ensures.after

pub returns-in-None-clause-wants : goal.returns-in-None-clause-wants
returns-in-None-clause-wants g c =
    let short : nat_lt 8192 (length c.args.line.now) ≡ false = search rules in
    let is = sym c.parts_in.ensures ∙ ap as_parts c.in-None.is in
    rw (of_none c.args.foreign c.args.form c.args.line.now short is) c.answer.ensures.wants
