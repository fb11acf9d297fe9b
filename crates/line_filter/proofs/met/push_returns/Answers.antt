use Rattle.std.proofs.Common.{arith, lit<, ◌≤◌, ◌^◌, ◌<◌, ◌∙◌, ap, length, append_assoc, ◌++◌, List, ℕ}
use Rattle.std.specs.Prelude.{codes}
use Rattle.std.specs.Fmt.{decimal}
use Rattle.std.proofs.lemmas.Fmt.{length-decimal-le}
use Rattle.line_filter.proofs.Noticing.{many_words}
use Rattle.line_filter.proofs.met.push_returns.Goals as goal

pub push_decimal-requires : goal.push_decimal-requires
push_decimal-requires c =
    let n = c.args.returns in
    let small : n < 2 ^ 64 = c.ranges.returns.fits in
    let digits : length (decimal n) ≤ 20 = length-decimal-le 20 n (lit< tt) (omega (arith, small)) small in
    let room = c.requires in
    omega (arith, digits, room)

pub returns-then-returns-eq1 : goal.returns-then-returns-eq1
returns-then-returns-eq1 c = record { pushed = rw c.if-returns-eq1.true c.push_all.ensures.appended }

pub returns-else-returns-eq1 : goal.returns-else-returns-eq1
returns-else-returns-eq1 c = record {
  pushed =
      let n = c.args.returns in
      let words = c.args.words.now in
      c.push_all-else-returns-eq1.ensures.appended
      ∙ ap (λ (xs : List ℕ). xs ++ codes " lines end with a carriage return") c.push_decimal.ensures.appended
      ∙ append_assoc words (decimal n) (codes " lines end with a carriage return")
      ∙ ap (λ (xs : List ℕ). words ++ xs) (many_words n c.if-returns-eq1.false);
}
