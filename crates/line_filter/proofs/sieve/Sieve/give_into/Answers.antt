use Rattle.std.proofs.Common.{◌++◌, ◌+◌, arith, ap, drop, length, length-drop, take, sym, ◌∙◌, append_assoc, List, ℕ}
use Rattle.line_filter.specs.Rests.{after_mark, kept_rest, unix_rest}
use Rattle.line_filter.specs.Steps.{shown, shown_after, shown_kept, waiting}
use Rattle.line_filter.proofs.Shown.{given_into}
use Rattle.line_filter.proofs.sieve.Sieve.give_into.Goals as goal

pub overflow_add-self : goal.overflow_add-self
overflow_add-self c = let fits = c.waiting.ensures.fits in omega (arith, fits, c.min-count.ensures)

pub invariant_of-self : goal.invariant_of-self
unfolding waiting
invariant_of-self c = record {
  within =
      let long = ap length c.waiting.ensures.value in
      omega (
        arith,
        long,
        c.min-count.ensures,
        length-drop c.args.self.now.given c.args.self.now.ready,
        c.args.self.now.within,
      );
}

pub returns-clause-waiting : goal.returns-clause-waiting
unfolding waiting
returns-clause-waiting c =
    let long = ap length c.waiting.ensures.value in
    given_into c.args.self.now.given c.min-count.result c.args.self.now.ready c.copy_from_slice.new.self _
    (c.copy_from_slice.ensures.after ∙ ap (λ (xs : List ℕ). take c.min-count.result xs) c.waiting-2.ensures.value)
    (omega (arith, long, c.min-count.ensures))

pub returns-clause-shown : goal.returns-clause-shown
unfolding shown shown_after shown_kept waiting
returns-clause-shown c text =
    let s = c.args.self.now in
    let n = c.min-count.result in
    let long = ap length c.waiting.ensures.value in
    let rest = kept_rest s.forms.htpasswd s.place (unix_rest s.forms.crlf s.has_return (after_mark s.mark text)) in
    sym (append_assoc (take n (c.copy_from_slice.new.self ++ drop n c.args.buf.now)) (drop (s.given + n) s.ready) rest)
    ∙ ap (λ (xs : List ℕ). xs ++ rest)
    (given_into s.given n s.ready c.copy_from_slice.new.self (drop n c.args.buf.now)
    (c.copy_from_slice.ensures.after ∙ ap (λ (xs : List ℕ). take n xs) c.waiting-2.ensures.value)
    (omega (arith, long, c.min-count.ensures)))
