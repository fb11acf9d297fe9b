use Rattle.std.proofs.Common.{ℕ, arith, slice_index}
use Rattle.std.proofs.lemmas.List.{get_or_default}
use Rattle.std.proofs.lemmas.List.Edits.{map_over_more}
use Rattle.base64ct.specs.Encoding.{character}
use Rattle.base64ct.proofs.encode.encode_values.Goals as goal

pub value-preserved : goal.value-preserved
value-preserved g c =
    let x : ℕ = slice_index c.value.values c.value.j in
    rw c.encode_6bits.ensures
    (map_over_more (character g.A.Alphabet.alphabet) c.args.values.now c.value.values c.value.j x (omega arith)
    c.value.invariant (get_or_default c.value.values c.value.j 0 x (omega arith)))
