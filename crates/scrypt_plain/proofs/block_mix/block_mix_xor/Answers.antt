use Rattle.std.proofs.Common.{ℕ, ◌+◌, ◌-◌, ◌*◌, List, ap, ◌∙◌, arith}
use Rattle.word_lists.specs.Lists.{xor_bytes}
use Rattle.scrypt_plain.specs.Scrypt.{salsa20_8}
use Rattle.scrypt_plain.specs.Layout.{lane_bytes, row_bytes}
use Rattle.scrypt_plain.proofs.Rows.{IsMixing_none, IsMixing_more, IsMixing_all, row_bytes_parts}
use Rattle.scrypt_plain.proofs.block_mix.block_mix_xor.Goals as goal

pub pairs-init : goal.pairs-init
pairs-init c =
    IsMixing_none c.args.r (xor_bytes (row_bytes (2 * c.args.r) c.args.from.now)
    (row_bytes (2 * c.args.r) c.args.with.now)) c.load_xor-x.result c.args.to.now
    (c.load_xor-x.ensures ∙ row_bytes_parts (2 * c.args.r) c.args.from.now c.args.with.now (32 * c.args.r - 16) _
    (32 * c.args.r - 16) _ (2 * c.args.r - 1) (omega arith) (omega arith) (omega arith) (omega arith) (omega arith))

pub pairs-preserved : goal.pairs-preserved
pairs-preserved c =
    let i = c.pairs.i in
    let B = (xor_bytes (row_bytes (2 * c.args.r) c.args.from.now) (row_bytes (2 * c.args.r) c.args.with.now)) in
    let first = c.load_xor.ensures
    ∙ row_bytes_parts (2 * c.args.r) c.args.from.now c.args.with.now (32 * i) _ (32 * i) _ (2 * i) (omega arith)
    (omega arith) (omega arith) (omega arith) (omega arith) in
    let second = c.load_xor-in-pairs.ensures
    ∙ row_bytes_parts (2 * c.args.r) c.args.from.now c.args.with.now (32 * i + 16) _ (32 * i + 16) _ (2 * i + 1)
    (omega arith) (omega arith) (omega arith) (omega arith) (omega arith) in
    IsMixing_more c.args.r B c.pairs.x c.mix-x.result c.mix-x-in-pairs.result c.pairs.to c.store.new.words
    c.store-in-pairs.new.words
    i _ _ c.pairs.invariant (omega arith) (omega arith) (omega arith) (omega arith) (omega arith) (omega arith)
    (c.mix-x.ensures ∙ ap (λ (w : List ℕ). salsa20_8 (xor_bytes (lane_bytes c.pairs.x) w)) first)
    (c.mix-x-in-pairs.ensures ∙ ap (λ (w : List ℕ). salsa20_8 (xor_bytes (lane_bytes c.mix-x.result) w)) second)
    c.store.ensures c.store-in-pairs.ensures

pub returns : goal.returns
returns c = IsMixing_all c.args.r
    (xor_bytes (row_bytes (2 * c.args.r) c.args.from.now) (row_bytes (2 * c.args.r) c.args.with.now)) c.pairs.x
    c.pairs.to c.pairs.i (omega arith) c.pairs.invariant
