use Rattle.std.proofs.Common.{◌∙◌, ◌∷◌, ◌++◌, [], ap, append_assoc, drop, List, ℕ}
use Rattle.std.proofs.lemmas.List.{drop-append-le}
use Rattle.line_filter.specs.MappedSteps.{waiting_of}
use Rattle.line_filter.proofs.mapping.Mapping.give.Goals as goal

pub returns-clause-waiting : goal.returns-clause-waiting
unfolding waiting_of
returns-clause-waiting c =
    let m = c.args.self.now in
    ap (λ (ready : List ℕ). drop m.given ready)
    (c.push_all-2.ensures.appended ∙ ap (λ (xs : List ℕ). xs ++ 10 ∷ []) c.push_all.ensures.appended
    ∙ append_assoc m.ready c.args.line.now (10 ∷ []))
    ∙ drop-append-le m.given m.ready (c.args.line.now ++ 10 ∷ []) m.within
