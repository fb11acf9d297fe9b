use Rattle.std.proofs.Common.{◌<◌, length, arith, inl}
use Rattle.base64ct.specs.Wrapping.{HoldsOnlyEnds}
use Rattle.pwcheck_run.proofs.Kept.{unwraps_opened, unwraps_all, unwraps_bad}
use Rattle.pwcheck_run.proofs.streams.unwrapped.Goals as goal

pub returns-in-Err : goal.returns-in-Err
returns-in-Err c = λ _ output u.
    let some : 0 < length c.args.input.now = omega (arith, c.if-input-eq0.false) in
    let other = unwraps_opened c.args.width c.args.input.now output c.requires.width some u in
    (c.in-Err.ensures.answer other.0 c.requires.width).1 _ other.1

pub returns-in-Ok-decode_rest : goal.returns-in-Ok-decode_rest
returns-in-Ok-decode_rest c =
    let some : 0 < length c.args.input.now = omega (arith, c.if-input-eq0.false) in
    let text : HoldsOnlyEnds c.args.input.now → ⊥ = λ only. let e = c.in-Ok.ensures.no_text (inl only) in cc in
    let made = c.in-Ok.ensures.answer text c.requires.width in
    let rest = c.in-Ok-decode_rest.ensures.answer in
    unwraps_all c.args.width c.args.input.now _ _ _ c.requires.width some made.0 made.1 c.new-bytes.ensures.items rest.1
    rest.2.0

pub returns-in-Err-decode_rest : goal.returns-in-Err-decode_rest
returns-in-Err-decode_rest c = λ is output u.
    let some : 0 < length c.args.input.now = omega (arith, c.if-input-eq0.false) in
    let text : HoldsOnlyEnds c.args.input.now → ⊥ = λ only. let e = c.in-Ok.ensures.no_text (inl only) in cc in
    let made = c.in-Ok.ensures.answer text c.requires.width in
    unwraps_bad c.args.width c.args.input.now _ output _ _ c.requires.width some made.1
    (c.in-Err-decode_rest.ensures.answer.0 is) u
