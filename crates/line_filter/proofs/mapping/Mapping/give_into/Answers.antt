use Rattle.std.proofs.Common.{◌++◌, ◌+◌, arith, ap, drop, length, length-drop, take, sym, ◌∙◌, append_assoc, List, ℕ}
use Rattle.line_filter.specs.Mapped.{mapped_text}
use Rattle.line_filter.specs.MappedSteps.{mapped_after, mapped_shown, pending_of, waiting_of}
use Rattle.line_filter.proofs.Placed.{given_into}
use Rattle.line_filter.proofs.mapping.Mapping.give_into.Goals as goal

pub invariant_of-self-clause-within : goal.invariant_of-self-clause-within
unfolding waiting_of
invariant_of-self-clause-within c =
    let long = ap length c.waiting.ensures.value in
    omega (
      arith,
      long,
      c.min-count.ensures,
      length-drop c.args.self.now.given c.args.self.now.ready,
      c.args.self.now.within,
    )

pub returns-clause-shown : goal.returns-clause-shown
unfolding mapped_shown mapped_after waiting_of pending_of
returns-clause-shown c rule text =
    let m = c.args.self.now in
    let n = c.min-count.result in
    let long = ap length c.waiting.ensures.value in
    let rest = mapped_text rule (m.line ++ (drop m.at m.piece ++ text)) in
    sym (append_assoc (take n (c.copy_from_slice.new.self ++ drop n c.args.buf.now)) (drop (m.given + n) m.ready) rest)
    ∙ ap (λ (xs : List ℕ). xs ++ rest)
    (given_into m.given n m.ready c.copy_from_slice.new.self (drop n c.args.buf.now)
    (c.copy_from_slice.ensures.after ∙ ap (λ (xs : List ℕ). take n xs) c.waiting-2.ensures.value)
    (omega (arith, long, c.min-count.ensures)))
