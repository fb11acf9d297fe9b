use Rattle.std.proofs.Common.{arith, refl}
use Rattle.base64ct.proofs.Wrapping.{wrote_short, wrote_across}
use Rattle.base64ct.proofs.lines.put.Goals as goal

pub returns-then-n-room : goal.returns-then-n-room
returns-then-n-room c =
    wrote_short c.args.width c.args.ending.now c.args.out.now c.copy_from_slice.new.self c.args.position _ c.args.room
    c.args.chars.now (omega arith) c.copy_from_slice.ensures.after (omega arith) (omega arith)

pub returns : goal.returns
returns c =
    wrote_across c.args.width c.args.ending.now c.args.out.now c.args.chars.now c.split_at.result.0.now
    c.split_at.result.1.now c.copy_from_slice-2.new.self c.copy_from_slice-3.new.self c.copy_from_slice-4.new.self
    c.args.position _ _ _ _ _ _ c.args.room _ c.split_at.ensures.front c.split_at.ensures.back
    c.copy_from_slice-2.ensures.after c.copy_from_slice-3.ensures.after c.copy_from_slice-4.ensures.after
    (omega arith) (omega arith) refl refl refl (omega arith) (omega arith) (omega arith) refl (omega arith)
