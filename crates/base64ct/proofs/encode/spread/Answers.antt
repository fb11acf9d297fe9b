use Rattle.std.proofs.Common.{ℕ, ◌+◌, ◌*◌, ◌/◌, length, take, ap, List, ◌∙◌, arith, refl, slice_index}
use Rattle.base64ct.proofs.Sextets.{groups-nil}
use Rattle.base64ct.proofs.Unpadded.{rest_one, rest_two}
use Rattle.base64ct.proofs.Spread.{written_more, written_last, written_all, groups_of_one, groups_of_two}
use Rattle.base64ct.proofs.encode.spread.Goals as goal

pub whole-init : goal.whole-init
whole-init g c = rw (groups-nil g.A.Alphabet.alphabet.low_first) refl

pub whole-preserved : goal.whole-preserved
whole-preserved g c =
    written_more g.A.Alphabet.alphabet.low_first c.args.src.now c.args.dst.now c.whole.dst _ c.whole.block _
    (λ k. omega (arith, c.type_inv.src k)) (omega arith) (omega arith) c.whole.invariant
    (c.copy_from_slice.ensures.after ∙ c.values.ensures.values)

pub returns-in-1-clause-written : goal.returns-in-1-clause-written
returns-in-1-clause-written g c =
    let i : ℕ = length c.args.src.now / 3 in
    written_last g.A.Alphabet.alphabet.low_first c.args.src.now c.args.dst.now c.whole.dst _ _ i c.whole.block _ _
    (λ k. omega (arith, c.type_inv.src k)) (omega arith) (omega arith) (omega arith) c.whole.invariant
    (rest_one c.args.src.now (3 * i) (omega arith))
    (c.copy_from_slice-in-1.ensures.after ∙ ap (λ (t : List ℕ). take 2 t) c.values-in-1.ensures.values
    ∙ groups_of_one g.A.Alphabet.alphabet.low_first (slice_index c.args.src.now (3 * i))
    (omega (arith, c.type_inv.src (3 * i))))

pub returns-in-2-clause-written : goal.returns-in-2-clause-written
returns-in-2-clause-written g c =
    let i : ℕ = length c.args.src.now / 3 in
    written_last g.A.Alphabet.alphabet.low_first c.args.src.now c.args.dst.now c.whole.dst _ _ i c.whole.block _ _
    (λ k. omega (arith, c.type_inv.src k)) (omega arith) (omega arith) (omega arith) c.whole.invariant
    (rest_two c.args.src.now (3 * i) (omega arith))
    (c.copy_from_slice-in-2.ensures.after ∙ ap (λ (t : List ℕ). take 3 t) c.values-in-2.ensures.values
    ∙ groups_of_two g.A.Alphabet.alphabet.low_first (slice_index c.args.src.now (3 * i))
    (slice_index c.args.src.now (3 * i + 1)) (omega (arith, c.type_inv.src (3 * i)))
    (omega (arith, c.type_inv.src (3 * i + 1))))

pub returns-in_default-clause-written : goal.returns-in_default-clause-written
returns-in_default-clause-written g c =
    written_all g.A.Alphabet.alphabet.low_first c.args.src.now c.args.dst.now c.whole.dst (length c.args.src.now / 3)
    c.whole.block (omega arith) (omega arith) c.whole.invariant
