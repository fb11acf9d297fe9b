use Rattle.std.proofs.Common.{◌++◌, ◌+◌, arith, ap, drop, length, length-drop, take, sym, ◌∙◌, append_assoc, List, ℕ}
use Rattle.set_lines.specs.Rests.{rest}
use Rattle.set_lines.specs.Steps.{shown, waiting}
use Rattle.set_lines.proofs.Given.{given_out}
use Rattle.set_lines.proofs.sets.Sets.give_into.Goals as goal

pub invariant_of-self : goal.invariant_of-self
unfolding waiting
invariant_of-self c = record {
  within =
      let long = ap length c.waiting.ensures.value in
      omega (
        arith,
        long,
        c.min-count.ensures,
        length-drop c.args.self.now.given c.args.self.now.ready,
        c.args.self.now.within,
      );
}

pub returns-clause-waiting : goal.returns-clause-waiting
unfolding waiting
returns-clause-waiting c =
    let long = ap length c.waiting.ensures.value in
    given_out c.args.self.now.given c.min-count.result c.args.self.now.ready c.copy_from_slice.new.self _
    (omega (arith, long, c.min-count.ensures))
    (c.copy_from_slice.ensures.after ∙ ap (λ (xs : List ℕ). take c.min-count.result xs) c.waiting-2.ensures.value)

pub returns-clause-shown : goal.returns-clause-shown
unfolding shown waiting
returns-clause-shown c text =
    let s = c.args.self.now in
    let n = c.min-count.result in
    sym (append_assoc (take n (c.copy_from_slice.new.self ++ drop n c.args.buf.now)) (drop (s.given + n) s.ready) (rest s.part text))
    ∙ ap (λ (xs : List ℕ). xs ++ rest s.part text) (returns-clause-waiting c)
