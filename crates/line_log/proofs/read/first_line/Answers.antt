use Rattle.std.proofs.Common.{◌+◌, ◌++◌, ◌∷◌, List, ℕ, take, drop, length-drop, add-one, sym, ◌∙◌, ap, arith}
use Rattle.std.proofs.lemmas.List.{take_all}
use Rattle.line_log.proofs.LogLines.{unended, split_at_feed, first_is, open_take, open_some, shut_text}
use Rattle.line_log.proofs.read.first_line.Goals as goal

pub returns-then-not-opens-clause-none : goal.returns-then-not-opens-clause-none
returns-then-not-opens-clause-none c = λ none. shut_text c.args.text.now (sym c.opens.ensures ∙ c.if-not-opens.true)

pub returns-in_err-len-clause-none : goal.returns-in_err-len-clause-none
returns-in_err-len-clause-none c = λ none. unended c.args.text.now c.in_err-len.ensures.found

pub returns-clause-line : goal.returns-clause-line
returns-clause-line c =
    let text = c.args.text.now in
    let n = c.in_ok-len.len in
    let gate = sym c.opens.ensures ∙ c.if-not-opens.false in
    (open_take n text gate (open_some n text gate c.in_ok-len.ensures.found.2), c.in_ok-len.ensures.found.1)

pub returns-clause-parts : goal.returns-clause-parts
returns-clause-parts c =
    let text = c.args.text.now in
    let n = c.in_ok-len.len in
    split_at_feed n text c.in_ok-len.ensures.found.0 c.in_ok-len.ensures.found.2
    ∙ ap (λ (k : ℕ). take n text ++ 10 ∷ drop k text) (sym (add-one n))
    ∙ ap (λ (t : List ℕ). take n text ++ 10 ∷ t) (sym (take_all _ (drop (n + 1) text) (omega (arith, length-drop (n + 1) text))))

pub returns-clause-lines : goal.returns-clause-lines
returns-clause-lines c = first_is c.args.text.now (take c.in_ok-len.len c.args.text.now) _ (returns-clause-parts c) (returns-clause-line c)
