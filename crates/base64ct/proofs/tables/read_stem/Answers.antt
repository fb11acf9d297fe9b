use Rattle.std.proofs.Common.{◌≡◌, ℕ, ◌+◌, ◌-◌, ◌*◌, ◌/◌, ◌%◌, length, ap, ◌∙◌, sym, arith}
use Rattle.std.proofs.lemmas.List.{take_rest, length-take-le}
use Rattle.base64ct.specs.Tables.{shaped}
use Rattle.base64ct.proofs.Decoded.{progress_more, end_rest}
use Rattle.base64ct.proofs.CountedReading.{end_leniently, all_accepted}
use Rattle.base64ct.proofs.tables.read_stem.Goals as goal

pub whole-init : goal.whole-init
whole-init g c = (
  record {
    read = c.read_pairs-fault.ensures.read;
    accepted = c.read_pairs-fault.ensures.accepted;
    rest = c.read_pairs-fault.ensures.rest;
  },
  c.read_pairs-fault.ensures.looks,
  c.read_pairs-fault.ensures.spells,
  c.read_pairs-fault.ensures.characters,
)

pub whole-preserved : goal.whole-preserved
whole-preserved g c =
    let block : length c.put_three.new.to ≡ 3 =
    ap length c.put_three.ensures.after ∙ c.decode_four-wrong.ensures.len in (
      progress_more (shaped (g.T.CodeTable.characters c.args.table.now) c.args.shape) c.args.src.now c.args.dst.now
          c.whole.dst _ c.whole.block c.whole.fault c.decode_four-wrong.result.1 _
          (omega arith) (omega arith) (omega arith) block (λ k. omega (arith, c.type_inv.dst k))
          (rw (← c.whole.invariant.3) c.decode_four-wrong.ensures.fault)
          (λ none. rw (c.put_three.ensures.after, ← c.whole.invariant.3) (c.decode_four-wrong.ensures.bytes none))
          c.whole.invariant.0,
      omega (arith, c.decode_four-wrong.ensures.looks, c.whole.invariant.1),
      c.decode_four-wrong.ensures.spells ∙ c.whole.invariant.2,
      c.decode_four-wrong.ensures.characters ∙ c.whole.invariant.3,
    )

pub returns-clause-read : goal.returns-clause-read
returns-clause-read g c = λ none.
    let i : ℕ = length c.args.src.now / 4 in
    let width : 3 * i + length c.args.src.now % 4 * 3 / 4 - 3 * i ≡ length c.args.src.now % 4 * 3 / 4 = omega arith in
    end_leniently (shaped (g.T.CodeTable.characters c.args.table.now) c.args.shape) c.args.src.now c.args.dst.now
    c.whole.dst c.read_filled-wrong.result.0 c.copy_from_slice.new.self _ i c.whole.block c.whole.fault
    c.read_filled-wrong.result.1 _ _
    (g.met.T.CodeTable.lawful c.args.table.now) (omega arith) (omega arith) (omega arith) (omega arith) width
    c.read_filled-wrong.ensures.len (rw width c.copy_from_slice.ensures.after)
    (take_rest c.args.src.now (4 * i)) (λ k. omega (arith, c.type_inv.dst k))
    (rw (← c.whole.invariant.3) c.read_filled-wrong.ensures.read) c.whole.invariant.0 none

pub returns-clause-accepted : goal.returns-clause-accepted
returns-clause-accepted g c = λ odd all.
    let i : ℕ = length c.args.src.now / 4 in
    all_accepted (shaped (g.T.CodeTable.characters c.args.table.now) c.args.shape) c.args.src.now c.args.dst.now
    c.whole.dst _ i c.whole.block c.whole.fault c.read_filled-wrong.result.1
    (omega arith) odd (take_rest c.args.src.now (4 * i))
    (rw (← c.whole.invariant.3) c.read_filled-wrong.ensures.accepted) c.whole.invariant.0 all

pub returns-clause-rest : goal.returns-clause-rest
returns-clause-rest g c =
    let i : ℕ = length c.args.src.now / 4 in
    let three : length c.read_filled-wrong.result.0 ≡ 3 = c.read_filled-wrong.ensures.len in
    let taken : length c.copy_from_slice.new.self ≡ length c.args.src.now % 4 * 3 / 4 =
    ap length c.copy_from_slice.ensures.after ∙ length-take-le _ c.read_filled-wrong.result.0 (omega arith) in
    let width : 3 * i + length c.args.src.now % 4 * 3 / 4 - 3 * i ≡ length c.args.src.now % 4 * 3 / 4 = omega arith in
    end_rest (shaped (g.T.CodeTable.characters c.args.table.now) c.args.shape) c.args.src.now c.args.dst.now c.whole.dst
    c.copy_from_slice.new.self i c.whole.block c.whole.fault _ _
    (omega arith) (omega arith) (omega arith) (taken ∙ sym width) c.whole.invariant.0
