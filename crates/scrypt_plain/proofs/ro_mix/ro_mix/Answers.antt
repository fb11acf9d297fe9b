use Rattle.std.proofs.Common.{◌≡◌, ℕ, ◌-◌, ◌*◌, ◌^◌, ◌<◌, ◌≤◌, List, length, ap, ◌∙◌, arith}
use Rattle.std.proofs.lemmas.Nat.{one_shl, pow_pos}
use Rattle.std.proofs.Math.Nat.{mul-le-mul_left}
use Rattle.std.proofs.lemmas.List.{length-take-le}
use Rattle.scrypt_plain.specs.Bytes.{bytes}
use Rattle.scrypt_plain.specs.Scrypt.{block_mix, table_row, ro_mix_state}
use Rattle.scrypt_plain.specs.Layout.{row_bytes}
use Rattle.word_lists.specs.Lists.{piece}
use Rattle.scrypt_plain.proofs.Table.{piece_first, last_row, even_power, filled_last, two_steps}
use Rattle.scrypt_plain.proofs.ro_mix.ro_mix.Goals as goal

abbrev Rows : ℕ → ℕ → List ℕ → List ℕ → Type 0
Rows r n B t = (k : ℕ) → k < n → row_bytes (2 * r) (piece (32 * r) t k) ≡ table_row r B k

rows_of : (r n N : ℕ) (B s t p : List ℕ) → N ≡ n → piece (32 * r) s 0 ≡ p → row_bytes (2 * r) p ≡ B
    → ((k : ℕ) → k < N → row_bytes (2 * r) (piece (32 * r) t k)
    ≡ table_row r (row_bytes (2 * r) (piece (32 * r) s 0)) k) → Rows r n B t
rows_of r n N B s t p e first first_row filled k lt =
    filled k (omega arith) ∙ ap (λ (b : List ℕ). table_row r b k) (ap (row_bytes (2 * r)) first ∙ first_row)

pub turns-init : goal.turns-init
turns-init c =
    let r = c.args.r in
    let n = 2 ^ c.args.ln in
    let B = bytes c.args.part.now in
    let some : 0 < n = pow_pos c.args.ln in
    let room : 32 * r ≤ length c.args.table.now = omega (arith, mul-le-mul_left (32 * r) some) in
    let shift = one_shl c.args.ln 64 (omega arith) in
    let long : length c.write_row.new.to ≡ 32 * r =
    omega (arith, c.write_row.auto.to, length-take-le (32 * r) c.args.table.now) in
    let rows = rows_of r n _ B _ c.fill_table.new.table c.write_row.new.to shift
    (piece_first (32 * r) c.write_row.new.to _ long) c.write_row.ensures c.fill_table.ensures in
    filled_last r n B (row_bytes (2 * r) c.block_mix.new.next) (n - 1)
    (c.block_mix.ensures
    ∙ ap (λ (z : List ℕ). block_mix r (row_bytes (2 * r) z))
    (last_row c.fill_table.new.table r n _ shift (omega arith) (omega arith))
    ∙ ap (block_mix r) (rows (n - 1) (omega arith)))
    (omega arith)

pub turns-preserved : goal.turns-preserved
turns-preserved c =
    let r = c.args.r in
    let n = 2 ^ c.args.ln in
    let B = bytes c.args.part.now in
    let some : 0 < n = pow_pos c.args.ln in
    let room : 32 * r ≤ length c.args.table.now = omega (arith, mul-le-mul_left (32 * r) some) in
    let shift = one_shl c.args.ln 64 (omega arith) in
    let long : length c.write_row.new.to ≡ 32 * r =
    omega (arith, c.write_row.auto.to, length-take-le (32 * r) c.args.table.now) in
    let rows = rows_of r n _ B _ c.fill_table.new.table c.write_row.new.to shift
    (piece_first (32 * r) c.write_row.new.to _ long) c.write_row.ensures c.fill_table.ensures in
    c.two_steps.ensures
    ∙ two_steps r n B (λ k. row_bytes (2 * r) (piece (32 * r) c.fill_table.new.table k)) (row_bytes (2 * r) c.turns.x)
    c.turns._turn some rows c.turns.invariant

pub returns : goal.returns
returns c =
    let shift = one_shl c.args.ln 64 (omega arith) in
    let even = even_power c.args.ln c.requires.ln.0 in
    let done : 2 * c.turns._turn ≡ 2 ^ c.args.ln = omega arith in
    c.read_row.ensures ∙ c.turns.invariant ∙ ap (ro_mix_state c.args.r (2 ^ c.args.ln) (bytes c.args.part.now)) done
