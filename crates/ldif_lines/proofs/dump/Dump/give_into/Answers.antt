use Rattle.std.proofs.Common.{◌++◌, ◌+◌, arith, ap, drop, length, length-drop, take, sym, ◌∙◌, append_assoc, List, ℕ}
use Rattle.ldif_lines.specs.Rests.{given_lines, rest_lines}
use Rattle.ldif_lines.specs.Steps.{held, shown, waiting}
use Rattle.line_filter.proofs.Placed.{given_into}
use Rattle.ldif_lines.proofs.dump.Dump.give_into.Goals as goal

pub invariant_of-self : goal.invariant_of-self
unfolding waiting
invariant_of-self c = record {
  within =
      let long = ap length c.waiting.ensures.value in
      omega (
        arith,
        long,
        c.min-count.ensures,
        length-drop c.args.self.now.given c.args.self.now.ready,
        c.args.self.now.within,
      );
}

pub returns-clause-waiting : goal.returns-clause-waiting
unfolding waiting
returns-clause-waiting c =
    let long = ap length c.waiting.ensures.value in
    given_into c.args.self.now.given c.min-count.result c.args.self.now.ready c.copy_from_slice.new.self _
    (c.copy_from_slice.ensures.after ∙ ap (λ (xs : List ℕ). take c.min-count.result xs) c.waiting-2.ensures.value)
    (omega (arith, long, c.min-count.ensures))

pub returns-clause-shown : goal.returns-clause-shown
unfolding shown waiting
returns-clause-shown c text =
    let d = c.args.self.now in
    let n = c.min-count.result in
    let long = ap length c.waiting.ensures.value in
    let rest = given_lines (held d.entry) (rest_lines d.has_feed d.line text) in
    sym (append_assoc (take n (c.copy_from_slice.new.self ++ drop n c.args.buf.now)) (drop (d.given + n) d.ready) rest)
    ∙ ap (λ (xs : List ℕ). xs ++ rest)
    (given_into d.given n d.ready c.copy_from_slice.new.self (drop n c.args.buf.now)
    (c.copy_from_slice.ensures.after ∙ ap (λ (xs : List ℕ). take n xs) c.waiting-2.ensures.value)
    (omega (arith, long, c.min-count.ensures)))
