use Rattle.std.proofs.Common.{rules, ◌≡◌, ◌+◌, ◌-◌, ◌/◌, ℕ, [], ◌∷◌, length, arith, ap, sym, ◌∙◌}
use Rattle.std.proofs.Math.Nat.{div-le_self}
use Rattle.base64ct.specs.Encoding.{EachBelow, encoding}
use Rattle.base64ct.specs.Alphabets.{base64}
use Rattle.base64ct.specs.Wrapping.{wrap}
use Rattle.pwcheck_run.proofs.Rooms.{encoding_short, encoding_some, room_is}
use Rattle.pwcheck_run.proofs.streams.room_for.Goals as goal

pub overflow_sub-count : goal.overflow_sub-count
overflow_sub-count c =
    let below : EachBelow 256 c.args.input.now = λ i. (c.type_inv.input i).fits in
    let count : c.encoded_len-count.result ≡ length (encoding base64 c.args.input.now) =
    c.encoded_len-count.ensures.short (omega (arith, c.requires.short)) in
    omega (arith, count, encoding_some c.args.input.now below c.requires.some)

pub overflow_add-count : goal.overflow_add-count
overflow_add-count c =
    let below : EachBelow 256 c.args.input.now = λ i. (c.type_inv.input i).fits in
    let count : c.encoded_len-count.result ≡ length (encoding base64 c.args.input.now) =
    c.encoded_len-count.ensures.short (omega (arith, c.requires.short)) in
    let short = encoding_short c.args.input.now below c.requires.short in
    let fewer = div-le_self (c.encoded_len-count.result - 1) c.args.width in
    omega (arith, count, short, fewer)

pub returns : goal.returns
returns c =
    let below : EachBelow 256 c.args.input.now = λ i. (c.type_inv.input i).fits in
    let count : c.encoded_len-count.result ≡ length (encoding base64 c.args.input.now) =
    c.encoded_len-count.ensures.short (omega (arith, c.requires.short)) in
    let room : c.encoded_len-count.result + (c.encoded_len-count.result - 1) / c.args.width
    ≡ length (wrap (encoding base64 c.args.input.now) c.args.width (10 ∷ [])) =
    ap (λ (n : ℕ). n + (n - 1) / c.args.width) count
    ∙ room_is c.args.width c.args.input.now (omega (arith, c.requires.width)) below c.requires.some in
    record { room = rw (sym room) (search rules) }
