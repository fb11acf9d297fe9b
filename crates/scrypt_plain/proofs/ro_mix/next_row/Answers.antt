use Rattle.std.proofs.Common.{◌≡◌, ℕ, ◌+◌, ◌-◌, ◌*◌, ◌≤◌, List, length, take, drop, ap, ◌∙◌, arith}
use Rattle.std.proofs.Math.Nat.{mul-le-mul_left}
use Rattle.std.proofs.lemmas.List.{length-take-le}
use Rattle.scrypt_plain.specs.Scrypt.{block_mix}
use Rattle.scrypt_plain.specs.Layout.{row_bytes}
use Rattle.word_lists.specs.Lists.{piece}
use Rattle.word_lists.proofs.Pieces.{piece_left, piece-take, piece_at}
use Rattle.scrypt_plain.proofs.ro_mix.next_row.Goals as goal

pub returns-clause-next : goal.returns-clause-next
returns-clause-next c =
    let r = c.args.r in
    let i = c.args.i in
    let front = c.split_at_mut-done.result.0.now in
    let back = c.split_at_mut-done.result.1.now in
    let at : length front ≡ 32 * r * (i + 1) = omega arith in
    let long : length c.block_mix.new.next ≡ 32 * r =
    omega (arith, c.block_mix.auto.next, length-take-le (32 * r) back) in
    let width : length front - 32 * r * i ≡ 32 * r = omega arith in
    ap (row_bytes (2 * r)) (piece_at (32 * r) (i + 1) front c.block_mix.new.next _ at long)
    ∙ c.block_mix.ensures
    ∙ ap (λ (z : List ℕ). block_mix r (row_bytes (2 * r) z))
    (ap (λ (w : ℕ). take w (drop (32 * r * i) front)) width
    ∙ ap (λ (z : List ℕ). piece (32 * r) z i) c.split_at_mut-done.ensures.front
    ∙ piece-take (32 * r) i (32 * r * i + 32 * r) c.args.table.now (omega arith) (omega arith))

pub returns-clause-others : goal.returns-clause-others
returns-clause-others c = λ k low.
    let r = c.args.r in
    let i = c.args.i in
    let below : 32 * r * k ≤ 32 * r * i = mul-le-mul_left (32 * r) low in
    piece_left (32 * r) k c.split_at_mut-done.result.0.now _ (omega arith)
    ∙ ap (λ (z : List ℕ). piece (32 * r) z k) c.split_at_mut-done.ensures.front
    ∙ piece-take (32 * r) k (32 * r * i + 32 * r) c.args.table.now (omega arith) (omega arith)
