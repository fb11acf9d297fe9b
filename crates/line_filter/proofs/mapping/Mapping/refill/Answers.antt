use Rattle.std.proofs.Common.{◌∙◌, ◌+◌, ◌++◌, ap, drop, drop-drop, sym, List, ℕ}
use Rattle.line_filter.specs.MappedSteps.{mapped_after, mapped_shown, pending_of, waiting_of}
use Rattle.line_filter.proofs.Placed.{after_place, nothing_dropped}
use Rattle.line_filter.proofs.mapping.Mapping.refill.Goals as goal

pub returns-clause-shown : goal.returns-clause-shown
unfolding mapped_shown mapped_after pending_of waiting_of
returns-clause-shown g c text =
    let rule = g.R.LineRule.rule c.args.rule.now in
    let old = c.args.self.now in
    let cleared = c.clear.new.self in
    let now = c.pour-count.new.self in
    let count = c.pour-count.result in
    ap (λ (p : List ℕ). mapped_after rule now (drop (now.at + count) p ++ text)) c.pour-count.ensures.piece.0
    ∙ ap (λ (n : ℕ). mapped_after rule now (drop (n + count) cleared.piece ++ text)) c.pour-count.ensures.piece.1
    ∙ ap (λ (rest : List ℕ). mapped_after rule now (rest ++ text)) (sym (drop-drop count cleared.at cleared.piece))
    ∙ rw (c.as_slice.ensures.value, after_place cleared.piece cleared.at) at (c.pour-count.ensures.shown text)
    ∙ c.clear.ensures.shown rule (drop cleared.at cleared.piece ++ text)
    ∙ ap (λ (p : List ℕ). mapped_after rule old (drop cleared.at p ++ text)) c.clear.ensures.piece.0
    ∙ ap (λ (n : ℕ). mapped_after rule old (drop n old.piece ++ text)) c.clear.ensures.piece.1

pub returns-clause-all : goal.returns-clause-all
unfolding pending_of waiting_of
returns-clause-all g c given =
    let cleared = c.clear.new.self in
    let now = c.pour-count.new.self in
    let count = c.pour-count.result in
    ap (λ (p : List ℕ). drop (now.at + count) p) c.pour-count.ensures.piece.0
    ∙ ap (λ (n : ℕ). drop (n + count) cleared.piece) c.pour-count.ensures.piece.1
    ∙ sym (drop-drop count cleared.at cleared.piece)
    ∙ nothing_dropped (drop cleared.at cleared.piece) count
    (rw (c.as_slice.ensures.value, after_place cleared.piece cleared.at) at (c.pour-count.ensures.all given))
