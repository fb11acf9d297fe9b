use Rattle.std.proofs.Common.{arith, ap, ℕ, List, take, length, length-drop, ◌∷◌, []}
use Rattle.std.proofs.lemmas.List.{take_rest}
use Rattle.wrap_stream.proofs.Laying.{laying_none, laying_more}
use Rattle.wrap_stream.proofs.lines.put_lines.Goals as goal

pub lines-init : goal.lines-init
lines-init c = record {
  so_far = laying_none c.args.width (10 ∷ []) c.args.room c.args.chars.now c.args.out.now;
  within = omega arith;
  line = c.requires.line;
  fits = omega arith;
}

pub lines-preserved : goal.lines-preserved
lines-preserved c =
    let some = c.put_line-to.ensures.some in
    let rest = ap length (take_rest c.args.chars.now c.lines.done) in
    let len = length-drop c.lines.done c.args.chars.now in
    record {
      so_far = laying_more c.args.width (10 ∷ []) c.args.room c.args.chars.now c.lines.out c.put_line-to.new.out _
          c.lines.done c.lines.at c.lines.left c.put_line-to.result.1 c.put_line-to.result.0 c.put_line-to.result.2
          c.lines.invariant.so_far
          (ap (λ (t : List ℕ). take c.put_line-to.result.1 t) (take_rest c.args.chars.now c.lines.done))
          (omega (arith, some, rest, len)) c.put_line-to.ensures.put c.put_line-to.ensures.line.0;
      within = omega (arith, some, rest, len);
      line = c.put_line-to.ensures.line.1;
      fits = omega (arith, c.put_line-to.ensures.fits, rest, len, some);
    }
