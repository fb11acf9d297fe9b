use Rattle.std.proofs.Common.{◌≡◌, ◌∙◌, ◌∷◌, ◌++◌, [], ap, append-nil, sym, List, ℕ, Option, Some, None, true, false}
use Rattle.std.specs.Prelude.{is_some}
use Rattle.set_lines.specs.Rests.{rest}
use Rattle.set_lines.specs.Steps.{shown, waiting}
use Rattle.set_lines.specs.declared.sets.Part.{Part}
use Rattle.set_lines.proofs.Parts.{at_end, nothing_left}
use Rattle.set_lines.proofs.sets.Sets.end.Goals as goal

some_ends : (part : Option Part) → is_some part ≡ true → rest part [] ≡ 10 ∷ []
some_ends None never = absurd (cc never)
some_ends (Some part) some = at_end part

none_ends : (part : Option Part) → is_some part ≡ false → rest part [] ≡ []
none_ends None none = nothing_left
none_ends (Some part) never = absurd (cc never)

pub returns-then-is_some-clause-waiting : goal.returns-then-is_some-clause-waiting
unfolding shown waiting
returns-then-is_some-clause-waiting c =
    c.give.ensures.given
    ∙ sym (ap (λ (xs : List ℕ). waiting c.args.self.now ++ xs) (some_ends c.args.self.now.part (sym c.is_some.ensures ∙ c.if-is_some.true)))

pub returns-then-is_some-clause-shown : goal.returns-then-is_some-clause-shown
unfolding shown
returns-then-is_some-clause-shown c =
    ap (λ (xs : List ℕ). waiting c.give.new.self ++ xs)
    (ap (λ (part : Option Part). rest part []) c.give.ensures.part ∙ nothing_left)
    ∙ append-nil (waiting c.give.new.self) ∙ returns-then-is_some-clause-waiting c

pub returns-else-is_some-clause-waiting : goal.returns-else-is_some-clause-waiting
unfolding shown
returns-else-is_some-clause-waiting c =
    sym (append-nil (waiting c.args.self.now))
    ∙ sym (ap (λ (xs : List ℕ). waiting c.args.self.now ++ xs) (none_ends c.args.self.now.part (sym c.is_some.ensures ∙ c.if-is_some.false)))
