use Rattle.std.proofs.Common.{arith, refl, sym, ◌∷◌, []}
use Rattle.wrap_stream.proofs.Laying.{put_behind, put_within}
use Rattle.base64ct.proofs.Wrapping.{room-new_line, room-short}
use Rattle.wrap_stream.proofs.lines.put_line.Goals as goal

pub returns-then-left-eq0-clause-put : goal.returns-then-left-eq0-clause-put
returns-then-left-eq0-clause-put c =
    rw c.if-left-eq0.true (put_behind c.args.width c.args.chars.now c.args.out.now c.copy_from_slice.new.self c.args.at
    _ c.min-n.result _ 10 c.copy_from_slice.ensures.after (omega arith) (omega arith) (omega arith) (omega arith)
    refl refl (omega arith))

pub returns-then-left-eq0-clause-line : goal.returns-then-left-eq0-clause-line
returns-then-left-eq0-clause-line c =
    rw c.if-left-eq0.true (sym (room-new_line c.args.width c.min-n.result (omega arith) (omega arith)), omega arith)

pub returns-clause-put : goal.returns-clause-put
returns-clause-put c =
    put_within c.args.width (10 ∷ []) c.args.chars.now c.args.out.now c.copy_from_slice-2.new.self c.args.at c.args.left
    c.min-n-2.result _ c.copy_from_slice-2.ensures.after (omega arith) (omega arith) (omega arith) (omega arith)

pub returns-clause-line : goal.returns-clause-line
returns-clause-line c = (sym (room-short c.args.width c.args.left c.min-n-2.result (omega arith)), omega arith)
