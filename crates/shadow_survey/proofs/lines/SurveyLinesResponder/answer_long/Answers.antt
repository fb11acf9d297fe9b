use Rattle.std.proofs.Common.{rules, ◌≡◌, ◌∙◌, ap, [], length, sym, true, List, ℕ}
use Rattle.std.specs.Prelude.{nat_lt}
use Rattle.shadow_survey.specs.Counting.{counted, kind_of}
use Rattle.shadow_survey.specs.Rows.{is_good}
use Rattle.shadow_survey.specs.declared.judgement.Judgement.{Judgement}
use Rattle.shadow_survey.specs.declared.judgement.Judgement.TheVariants.{TooLong}
use Rattle.shadow_survey.proofs.Surveying.{of_long, row_of}
use Rattle.shadow_survey.proofs.lines.SurveyLinesResponder.answer_long.Goals as goal

pub returns-clause-good : goal.returns-clause-good
returns-clause-good g c = λ line long_line.
    let s = c.args.self.now in
    let long : nat_lt 8192 (length line) ≡ true = search rules in
    c.put_counted.ensures.good ∙ sym (ap (λ (x : List ℕ × Judgement). is_good x.1) (of_long s.least line long))

pub returns-clause-reply : goal.returns-clause-reply
returns-clause-reply g c = λ line long_line.
    let s = c.args.self.now in
    let long : nat_lt 8192 (length line) ≡ true = search rules in
    rw (row_of s.least line s.format [] TooLong (of_long s.least line long)) c.put_counted.ensures.row

pub returns-clause-after : goal.returns-clause-after
returns-clause-after g c = λ line long_line.
    let s = c.args.self.now in
    let long : nat_lt 8192 (length line) ≡ true = search rules in
    c.put_counted.ensures.count
    ∙ sym (ap (λ (x : List ℕ × Judgement). record s { has_begun = true; counts = counted s.counts (kind_of x.1) }) (of_long s.least line long))
