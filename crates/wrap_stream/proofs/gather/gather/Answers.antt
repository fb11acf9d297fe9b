use Rattle.std.proofs.Common.{arith, ap, ◌≡◌, ℕ, List, ◌+◌, ◌-◌, ◌++◌, ◌∙◌, drop, length-take-le, length, length-drop}
use Rattle.std.proofs.Common.{refl, take}
use Rattle.std.proofs.lemmas.List.{take_at, take_rest}
use Rattle.std.proofs.lemmas.Slice.{take-put_mid}
use Rattle.wrap_stream.proofs.Gathered.{gather_none, gather_more}
use Rattle.wrap_stream.proofs.gather.gather.Goals as goal

pub lines-init : goal.lines-init
lines-init c =
    let n : ℕ = length c.args.waiting.now in
    let copy = c.copy_from_slice.ensures.after in
    let stand : take n (c.copy_from_slice.new.self ++ drop n c.args.chars.now) ≡ c.args.waiting.now =
    take_at c.copy_from_slice.new.self _ n (ap length copy) ∙ copy in
    record {
      so_far = rw stand (gather_none c.args.width c.args.room c.args.waiting.now);
      within = omega arith;
      fits = omega arith;
      few = omega arith;
    }

pub lines-preserved : goal.lines-preserved
lines-preserved c =
    let rest = take_rest c.args.text.now c.lines.taken in
    let start : ℕ = c.lines.taken + c.end_line-end.result.0 in
    let n : ℕ = c.min-n.result in
    let text : List ℕ = drop start c.args.text.now in
    let line : c.copy_from_slice-in-lines.new.self ≡ take n text =
    c.copy_from_slice-in-lines.ensures.after ∙ ap (λ (i : ℕ). take i text) (omega arith) in
    let len = length-take-le n text (omega (arith, length-drop start c.args.text.now)) in
    let put = take-put_mid c.lines.len (c.lines.len + n - c.lines.len) c.lines.chars
    c.copy_from_slice-in-lines.new.self (c.lines.len + n) (omega (arith, ap length line, len)) (omega arith)
    ∙ ap (λ (t : List ℕ). take c.lines.len c.lines.chars ++ t) line in
    let within = ap length rest ∙ length-drop c.lines.taken c.args.text.now in
    record {
      so_far = gather_more c.args.width _ c.args.text.now c.lines.chars _ (take c.end_line-end.result.0
          (drop c.lines.taken c.args.text.now)) c.lines.taken c.lines.len c.end_line-end.result.0 c.min-n.result _ _
          _ c.lines.left c.end_line-end.result.1 _ (omega arith) c.lines.invariant.so_far
          (rw rest at c.end_line-end.ensures.ends) refl refl (omega arith) (omega arith) (omega arith)
          put refl;
      within = omega arith;
      fits = omega arith;
      few = omega arith;
    }
