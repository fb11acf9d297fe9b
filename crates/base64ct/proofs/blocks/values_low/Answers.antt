use Rattle.std.proofs.Common.{[], ◌∷◌, true, arith, ◌∙◌, refl}
use Rattle.base64ct.proofs.Shifts.{values_low, same-below}
use Rattle.base64ct.proofs.Encodings.{groups-below, below-three}
use Rattle.base64ct.proofs.blocks.values_low.Goals as goal

pub returns-clause-values : goal.returns-clause-values
returns-clause-values c =
    c.to_le_bytes.ensures ∙ values_low c.from-3.result c.from-2.result c.from.result (omega arith) (omega arith)
    (omega arith)
    ∙ rw (c.from.ensures, c.from-2.ensures, c.from-3.ensures) refl

pub returns-clause-small : goal.returns-clause-small
returns-clause-small c =
    same-below _ _ (returns-clause-values c)
    (groups-below true (c.args.a ∷ c.args.b ∷ c.args.c ∷ [])
    (below-three c.args.a c.args.b c.args.c (omega arith) (omega arith) (omega arith)))
