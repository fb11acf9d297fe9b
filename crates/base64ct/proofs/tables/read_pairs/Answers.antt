use Rattle.std.proofs.Common.{◌≡◌, ℕ, ◌+◌, ◌*◌, ◌-◌, ◌/◌, List, length, bit_or, ap, ◌∙◌, refl, arith}
use borrow.Rule.Slice.PartMut.{put_mid}
use Rattle.base64ct.specs.Encoding.{Alphabet}
use Rattle.base64ct.specs.Tables.{shaped}
use Rattle.base64ct.proofs.CountedReading.{below-put_mid}
use Rattle.base64ct.proofs.Decoded.{Progress, progress_none, progress_more}
use Rattle.base64ct.proofs.tables.read_pairs.Goals as goal

pub pairs-init : goal.pairs-init
pairs-init g c = (
  progress_none (shaped (g.T.CodeTable.characters c.args.table.now) c.args.shape) c.args.src.now c.args.dst.now,
  omega arith,
  refl,
  refl,
  λ k. omega (arith, c.type_inv.dst k),
)

pub pairs-preserved : goal.pairs-preserved
pairs-preserved g c =
    let a : Alphabet = shaped (g.T.CodeTable.characters c.args.table.now) c.args.shape in
    let first : length c.put_three.new.to ≡ 3 =
    ap length c.put_three.ensures.after ∙ c.decode_four-first_fault.ensures.len in
    let second : length c.put_three-in-pairs.new.to ≡ 3 =
    ap length c.put_three-in-pairs.ensures.after ∙ c.decode_four-second_fault.ensures.len in
    let n : ℕ = 2 * c.pairs.pair in
    let k : ℕ = 3 * n + 3 - 3 * n in
    let half : Progress a c.args.src.now c.args.dst.now (put_mid (3 * n) k c.pairs.dst c.put_three.new.to) (n + 1)
    (bit_or c.pairs.fault c.decode_four-first_fault.result.1) =
    progress_more a c.args.src.now c.args.dst.now c.pairs.dst c.put_three.new.to n c.pairs.fault
    c.decode_four-first_fault.result.1 k
    (omega arith) (omega arith) (omega arith) first
    (below-put_mid (3 * n) k c.pairs.dst c.put_three.new.to c.pairs.invariant.4
    (rw c.put_three.ensures.after c.decode_four-first_fault.ensures.small))
    (rw (← c.pairs.invariant.3) c.decode_four-first_fault.ensures.fault)
    (λ none. rw (c.put_three.ensures.after, ← c.pairs.invariant.3) (c.decode_four-first_fault.ensures.bytes none))
    c.pairs.invariant.0 in
    let characters = c.decode_four-first_fault.ensures.characters ∙ c.pairs.invariant.3 in
    let next : 2 * (c.pairs.pair + 1) ≡ n + 1 + 1 = omega arith in
    let m : ℕ = 3 * (n + 1) + 3 - 3 * (n + 1) in
    let dst : List ℕ = put_mid (3 * n) k c.pairs.dst c.put_three.new.to in
    let whole : Progress a c.args.src.now c.args.dst.now (put_mid (3 * (n + 1)) m dst c.put_three-in-pairs.new.to)
    (n + 1 + 1) (bit_or (bit_or c.pairs.fault c.decode_four-first_fault.result.1) c.decode_four-second_fault.result.1) =
    progress_more a c.args.src.now c.args.dst.now dst c.put_three-in-pairs.new.to (n + 1)
    (bit_or c.pairs.fault c.decode_four-first_fault.result.1) c.decode_four-second_fault.result.1 m
    (omega arith) (omega arith) (omega arith) second (λ k. omega (arith, c.type_inv.dst k))
    (rw (← characters) c.decode_four-second_fault.ensures.fault)
    (λ none. rw (c.put_three-in-pairs.ensures.after, ← characters) (c.decode_four-second_fault.ensures.bytes none))
    half in (
      rw next whole,
      omega (
        arith,
        c.decode_four-first_fault.ensures.looks,
        c.decode_four-second_fault.ensures.looks,
        c.pairs.invariant.1,
      ),
      c.decode_four-second_fault.ensures.spells ∙ c.decode_four-first_fault.ensures.spells ∙ c.pairs.invariant.2,
      c.decode_four-second_fault.ensures.characters ∙ characters,
      λ k. omega (arith, c.type_inv.dst k),
    )

pub returns-clause-read : goal.returns-clause-read
returns-clause-read g c = λ none.
    let whole : c.pairs.pair ≡ length c.args.src.now / 8 = omega arith in
    rw (← whole) (c.pairs.invariant.0.read none)

pub returns-clause-rest : goal.returns-clause-rest
returns-clause-rest g c =
    let whole : c.pairs.pair ≡ length c.args.src.now / 8 = omega arith in
    rw (← whole) c.pairs.invariant.0.rest
