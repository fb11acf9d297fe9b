use Rattle.std.proofs.Common.{◌≡◌, ◌∙◌, ◌∷◌, ◌++◌, [], ap, append-nil, arith, drop, sym, List, ℕ}
use Rattle.line_filter.specs.Mapped.{Rule, mapped_line, mapped_text}
use Rattle.line_filter.specs.MappedSteps.{mapped_after, mapped_shown, pending_of, waiting_of}
use Rattle.line_filter.specs.declared.mapping.Mapping.{Mapping}
use Rattle.line_filter.proofs.Placed.{at_end, at_nothing, none_held}
use Rattle.line_filter.proofs.mapping.Mapping.end.Goals as goal

-- nothing is pending after what leaves the piece as it is
still_none : (old now : Mapping) → now.piece ≡ old.piece → now.at ≡ old.at → pending_of old ≡ [] → pending_of now ≡ []
unfolding pending_of
still_none old now piece at none =
    ap (λ (p : List ℕ). drop now.at p) piece ∙ ap (λ (n : ℕ). drop n old.piece) at ∙ none

-- all that is shown is the line under way
whole : (rule : Rule) (old now : Mapping) → pending_of old ≡ [] → waiting_of now ≡ []
    → ((text : List ℕ) → mapped_after rule now text ≡ mapped_after rule old text) → mapped_shown rule old [] ≡ mapped_text rule now.line
unfolding mapped_shown mapped_after
whole rule old now none given same =
    ap (λ (p : List ℕ). mapped_after rule old (p ++ [])) none
    ∙ sym (same [])
    ∙ ap (λ (w : List ℕ). w ++ mapped_text rule (now.line ++ [])) given
    ∙ ap (mapped_text rule) (append-nil now.line)

-- where no line is under way, all is ready
shown_ready : (rule : Rule) (now : Mapping) → pending_of now ≡ [] → now.line ≡ [] → mapped_shown rule now [] ≡ waiting_of now
unfolding mapped_shown mapped_after
shown_ready rule now none line =
    ap (λ (p : List ℕ). mapped_after rule now (p ++ [])) none
    ∙ ap (λ (l : List ℕ). waiting_of now ++ mapped_text rule (l ++ [])) line
    ∙ ap (λ (xs : List ℕ). waiting_of now ++ xs) (at_nothing rule)
    ∙ append-nil (waiting_of now)

pub returns-then-len-ne0-clause-none : goal.returns-then-len-ne0-clause-none
returns-then-len-ne0-clause-none g c =
    still_none c.args.self.now c.end_line.new.self (c.end_line.ensures.piece.0 ∙ c.clear.ensures.piece.0)
    (c.end_line.ensures.piece.1 ∙ c.clear.ensures.piece.1) c.requires.none

pub returns-then-len-ne0-clause-waiting : goal.returns-then-len-ne0-clause-waiting
returns-then-len-ne0-clause-waiting g c =
    let rule = g.R.LineRule.rule c.args.rule.now in
    let now = c.clear.new.self in
    c.end_line.ensures.waiting
    ∙ ap (λ (w : List ℕ). w ++ (mapped_line rule now.line ++ 10 ∷ [])) c.clear.ensures.waiting
    ∙ sym (at_end rule now.line now.free (omega (arith, c.len.ensures.value, c.if-len-ne0.true)))
    ∙ sym (whole rule c.args.self.now now c.requires.none c.clear.ensures.waiting (c.clear.ensures.shown rule))

pub returns-then-len-ne0-clause-shown : goal.returns-then-len-ne0-clause-shown
returns-then-len-ne0-clause-shown g c =
    shown_ready (g.R.LineRule.rule c.args.rule.now) c.end_line.new.self (returns-then-len-ne0-clause-none g c)
    c.end_line.ensures.line
    ∙ returns-then-len-ne0-clause-waiting g c

pub returns-else-len-ne0-clause-none : goal.returns-else-len-ne0-clause-none
returns-else-len-ne0-clause-none g c =
    still_none c.args.self.now c.clear.new.self c.clear.ensures.piece.0 c.clear.ensures.piece.1 c.requires.none

pub returns-else-len-ne0-clause-waiting : goal.returns-else-len-ne0-clause-waiting
returns-else-len-ne0-clause-waiting g c =
    let rule = g.R.LineRule.rule c.args.rule.now in
    let now = c.clear.new.self in
    c.clear.ensures.waiting
    ∙ sym (none_held rule now.line (omega (arith, c.len.ensures.value, c.if-len-ne0.false)))
    ∙ sym (whole rule c.args.self.now now c.requires.none c.clear.ensures.waiting (c.clear.ensures.shown rule))

pub returns-else-len-ne0-clause-shown : goal.returns-else-len-ne0-clause-shown
unfolding mapped_shown
returns-else-len-ne0-clause-shown g c =
    let rule = g.R.LineRule.rule c.args.rule.now in
    ap (λ (p : List ℕ). mapped_after rule c.clear.new.self (p ++ [])) (returns-else-len-ne0-clause-none g c)
    ∙ c.clear.ensures.shown rule []
    ∙ sym (ap (λ (p : List ℕ). mapped_after rule c.args.self.now (p ++ [])) c.requires.none)
