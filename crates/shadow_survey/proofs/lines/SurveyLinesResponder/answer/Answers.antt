use Rattle.std.proofs.Common.{rules, ◌≡◌, ◌∙◌, ap, false, true, [], length, sym, List, ℕ}
use Rattle.std.specs.Prelude.{nat_lt}
use Rattle.shadow_survey.specs.Counting.{counted, kind_of}
use Rattle.shadow_survey.specs.Rows.{is_good}
use Rattle.shadow_survey.specs.declared.judgement.Judgement.{Judgement}
use Rattle.shadow_survey.specs.declared.judgement.Judgement.TheVariants.{BadLine}
use Rattle.shadow_survey.proofs.Surveying.{of_found, of_short, row_of}
use Rattle.shadow_survey.proofs.lines.SurveyLinesResponder.answer.Goals as goal

pub returns-in-Some-clause-good : goal.returns-in-Some-clause-good
returns-in-Some-clause-good g c =
    let s = c.args.self.now in
    let short : nat_lt 8192 (length c.args.line.now) ≡ false = search rules in
    let found = of_found s.least c.args.line.now _ _ _ short (c.in-Some.ensures.some s.least) c.judged-judgement.ensures.judgement in
    c.put_counted.ensures.good ∙ sym (ap (λ (x : List ℕ × Judgement). is_good x.1) found)

pub returns-in-Some-clause-reply : goal.returns-in-Some-clause-reply
returns-in-Some-clause-reply g c =
    let s = c.args.self.now in
    let short : nat_lt 8192 (length c.args.line.now) ≡ false = search rules in
    let found = of_found s.least c.args.line.now _ _ _ short (c.in-Some.ensures.some s.least) c.judged-judgement.ensures.judgement in
    rw (row_of s.least c.args.line.now s.format _ _ found) c.put_counted.ensures.row

pub returns-in-Some-clause-after : goal.returns-in-Some-clause-after
returns-in-Some-clause-after g c =
    let s = c.args.self.now in
    let short : nat_lt 8192 (length c.args.line.now) ≡ false = search rules in
    let found = of_found s.least c.args.line.now _ _ _ short (c.in-Some.ensures.some s.least) c.judged-judgement.ensures.judgement in
    c.put_counted.ensures.count
    ∙ sym (ap (λ (x : List ℕ × Judgement). record s { has_begun = true; counts = counted s.counts (kind_of x.1) }) found)

pub returns-in-None-clause-good : goal.returns-in-None-clause-good
returns-in-None-clause-good g c =
    let s = c.args.self.now in
    let short : nat_lt 8192 (length c.args.line.now) ≡ false = search rules in
    let none = of_short s.least c.args.line.now short ∙ c.in-None.ensures.none s.least in
    c.put_counted-in-None.ensures.good ∙ sym (ap (λ (x : List ℕ × Judgement). is_good x.1) none)

pub returns-in-None-clause-reply : goal.returns-in-None-clause-reply
returns-in-None-clause-reply g c =
    let s = c.args.self.now in
    let short : nat_lt 8192 (length c.args.line.now) ≡ false = search rules in
    let none = of_short s.least c.args.line.now short ∙ c.in-None.ensures.none s.least in
    rw (row_of s.least c.args.line.now s.format [] BadLine none) c.put_counted-in-None.ensures.row

pub returns-in-None-clause-after : goal.returns-in-None-clause-after
returns-in-None-clause-after g c =
    let s = c.args.self.now in
    let short : nat_lt 8192 (length c.args.line.now) ≡ false = search rules in
    let none = of_short s.least c.args.line.now short ∙ c.in-None.ensures.none s.least in
    c.put_counted-in-None.ensures.count
    ∙ sym (ap (λ (x : List ℕ × Judgement). record s { has_begun = true; counts = counted s.counts (kind_of x.1) }) none)
