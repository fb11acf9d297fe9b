use Rattle.std.proofs.Common.{◌∙◌, ◌∷◌, ◌++◌, [], ap, append_assoc, sym, List, ℕ, Option}
use Rattle.set_lines.specs.Rests.{rest}
use Rattle.set_lines.specs.Steps.{shown, waiting}
use Rattle.set_lines.specs.declared.sets.Part.{Part}
use Rattle.set_lines.specs.declared.sets.Part.TheVariants.{User}
use Rattle.std.specs.Prelude.{Some}
use Rattle.set_lines.proofs.Parts.{line_begins}
use Rattle.set_lines.proofs.sets.Sets.begin.Goals as goal

pub returns-in-Some-clause-shown : goal.returns-in-Some-clause-shown
unfolding shown
returns-in-Some-clause-shown c b text =
    sym (ap (λ (part : Option Part). waiting c.args.self.now ++ rest part (b ∷ text)) c.in-Some.is)

pub returns-in-None-clause-shown : goal.returns-in-None-clause-shown
unfolding shown
returns-in-None-clause-shown c b text =
    let before = waiting c.args.self.now in
    ap (λ (xs : List ℕ). xs ++ rest (Some User) (b ∷ text)) c.give.ensures.given
    ∙ append_assoc before (115 ∷ 101 ∷ 116 ∷ 9 ∷ []) (rest (Some User) (b ∷ text))
    ∙ ap (λ (xs : List ℕ). before ++ xs) (sym (line_begins b text))
    ∙ sym (ap (λ (part : Option Part). before ++ rest part (b ∷ text)) c.in-None.is)
