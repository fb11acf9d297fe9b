use Rattle.std.proofs.Common.{◌≡◌, ℕ, ◌+◌, ◌-◌, ◌*◌, take, drop, ap, ◌∙◌, arith}
use Rattle.scrypt_plain.specs.Bytes.{bytes}
use Rattle.scrypt_plain.specs.Layout.{block_bytes, row_block}
use Rattle.scrypt_plain.proofs.Table.{rows_more, row_bytes_from_bytes}
use Rattle.scrypt_plain.proofs.ro_mix.write_row.Goals as goal

pub copies-preserved : goal.copies-preserved
copies-preserved c =
    let i = c.copies.i in
    let width : 16 * i + 16 - 16 * i ≡ 16 = omega arith in
    rows_more block_bytes (λ k. bytes (row_block c.args.from.now k)) i _ c.copies.to c.to_table_order.new.to
    width (omega arith) (omega arith) c.copies.invariant
    (c.to_table_order.ensures ∙ ap (λ (w : ℕ). bytes (take w (drop (16 * i) c.args.from.now))) width)

pub returns : goal.returns
returns c = row_bytes_from_bytes c.args.count c.args.from.now c.copies.to c.requires.from
    (λ k lt. c.copies.invariant k (omega arith))
