use Rattle.std.proofs.Common.{ap, sym, ◌∙◌}
use Rattle.mcf.specs.Grammar.{Parts}
use Rattle.mcf.proofs.Bodies.{no_parts, parts_behind}
use Rattle.mcf.proofs.parts_of.Goals as goal

pub returns-in-Some-clause-id : goal.returns-in-Some-clause-id
returns-in-Some-clause-id c =
    ap (λ (p : Parts). p.id)
    (parts_behind c.args.s.now _ _ (sym c.in-Some.ensures.pieces ∙ c.first_piece.ensures.pieces))

pub returns-in-Some-clause-fields : goal.returns-in-Some-clause-fields
returns-in-Some-clause-fields c =
    ap (λ (p : Parts). p.fields)
    (parts_behind c.args.s.now _ _ (sym c.in-Some.ensures.pieces ∙ c.first_piece.ensures.pieces))

pub returns-in-None-clause-id : goal.returns-in-None-clause-id
returns-in-None-clause-id c = ap (λ (p : Parts). p.id) (no_parts c.args.s.now (sym c.in-None.ensures.pieces))

pub returns-in-None-clause-fields : goal.returns-in-None-clause-fields
returns-in-None-clause-fields c = ap (λ (p : Parts). p.fields) (no_parts c.args.s.now (sym c.in-None.ensures.pieces))
