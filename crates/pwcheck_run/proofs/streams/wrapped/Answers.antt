use Rattle.std.proofs.Common.{◌≡◌, arith, false, true}
use Rattle.base64ct.specs.Encoding.{EachBelow}
use Rattle.pwcheck_run.proofs.Rooms.{blocks_fit, room_some}
use Rattle.pwcheck_run.proofs.streams.wrapped.Goals as goal

pub unreachable-requires : goal.unreachable-requires
unreachable-requires c =
    let below : EachBelow 256 c.args.input.now = λ i. (c.type_inv.input i).fits in
    let some = room_some c.args.width c.args.input.now (omega (arith, c.requires.width)) below c.requires.some in
    let wrong : false ≡ true = c.in-Err.ensures.made.1 (omega (arith, some, c.requires.room), c.requires.width) in
    cc

pub unreachable-requires-in-Err-encode : goal.unreachable-requires-in-Err-encode
unreachable-requires-in-Err-encode c =
    let below : EachBelow 256 c.args.input.now = λ i. (c.type_inv.input i).fits in
    let made = c.in-Ok.ensures.new in
    let fits = blocks_fit c.args.width c.args.input.now (omega (arith, c.requires.width)) below in
    let wrong : false ≡ true = c.in-Err-encode.ensures.accepted.1 (rw (made.0, made.1, made.2, c.requires.room) fits) in
    cc
