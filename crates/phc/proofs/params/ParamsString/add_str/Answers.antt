use Rattle.std.proofs.Common.{rules, ◌≡◌, Some, None, true, false, length, ap, ◌∙◌, refl}
use Rattle.std.specs.Prelude.{is_some, nat_lt, if◌then◌else◌}
use Rattle.phc.specs.Grammar.{is_name, text_pairs, value_fault}
use Rattle.phc.specs.Params.{appended, get}
use Rattle.phc.specs.ValueViews.{value_text}
use Rattle.phc.proofs.PairLemmas.{absent, addition, at_most, fits, grown, refusal, too_long}
use Rattle.phc.proofs.params.ParamsString.add_str.Goals as goal

pub invariant_of-self : goal.invariant_of-self
invariant_of-self c =
    let answer : Some c.in-Some.text
    ≡ (if nat_lt 127 (length (appended c.self.inside.text c.args.name (value_text c.args.value))) then None else
    Some (appended c.self.inside.text c.args.name (value_text c.args.value))) = search rules in
    let told = fits c.self.inside.text c.args.name (value_text c.args.value) c.in-Some.text answer in
    let n : is_name c.args.name ≡ true = search rules in
    let v : value_fault (value_text c.args.value) ≡ None = search rules in
    rw told.0 (grown c.self.inside.text c.args.name (value_text c.args.value) c.self.invariant n v (at_most _ told.1)).0

pub returns-in-Some : goal.returns-in-Some
returns-in-Some c =
    let answer : Some c.in-Some.text
    ≡ (if nat_lt 127 (length (appended c.self.inside.text c.args.name (value_text c.args.value))) then None else
    Some (appended c.self.inside.text c.args.name (value_text c.args.value))) = search rules in
    let told = fits c.self.inside.text c.args.name (value_text c.args.value) c.in-Some.text answer in
    let n : is_name c.args.name ≡ true = search rules in
    let v : value_fault (value_text c.args.value) ≡ None = search rules in
    let view : c.args.self.now ≡ text_pairs c.self.inside.text = search rules in
    let none : is_some c.get.result ≡ false = search rules in
    let fresh : is_some (get (text_pairs c.self.inside.text) c.args.name) ≡ false =
    absent value_text c.get.result _ (c.get.ensures.value ∙ ap (λ ps. get ps c.args.name) view) none in
    let added = addition c.self.inside.text c.args.name (value_text c.args.value) c.in-Some.text c.self.invariant n v
    fresh told.0 told.1 in
    record { added = rw (view, added) refl }

pub returns-in-None : goal.returns-in-None
returns-in-None c =
    let answer : None ≡ (if nat_lt 127 (length (appended c.self.inside.text c.args.name (value_text c.args.value))) then
    None else Some (appended c.self.inside.text c.args.name (value_text c.args.value))) = search rules in
    let long = too_long c.self.inside.text c.args.name (value_text c.args.value) answer in
    let view : c.args.self.now ≡ text_pairs c.self.inside.text = search rules in
    let none : is_some c.get.result ≡ false = search rules in
    let fresh : is_some (get (text_pairs c.self.inside.text) c.args.name) ≡ false =
    absent value_text c.get.result _ (c.get.ensures.value ∙ ap (λ ps. get ps c.args.name) view) none in
    let refused = refusal c.self.inside.text c.args.name (value_text c.args.value) c.self.invariant fresh long in
    record { added = rw (view, refused) refl }
